-- The laws behind the whole check: the verdict, the decoded book, the place of a fault, and its number.
pub mod Acceptance
pub mod Refusals
pub mod Verdicts
pub mod Places
pub mod Decoding
