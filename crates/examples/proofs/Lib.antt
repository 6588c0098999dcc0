-- The worked examples, and laws that pages name and no function needs.
pub mod Acceptance
pub mod Walks
