-- Worked examples of the calls.
pub mod Acceptance
