-- The laws of an answer's bytes, and of answers in a space.
pub mod Answers
pub mod Spaces
