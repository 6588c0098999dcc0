-- The worked examples, and the laws behind the functions: texts one after the other in a buffer, numbers in base ten.

pub mod Acceptance
pub mod Written
pub mod Texts
