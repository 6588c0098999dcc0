-- Texts has the paper's words for what a run prints; Acceptance has worked examples. Written is for those who read the code.
pub mod Texts
pub mod Acceptance
pub mod Written
