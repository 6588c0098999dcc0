-- The laws behind the rows: the rows, numbers of four bytes, and how a block is looked at.
pub mod Acceptance
pub mod Rows
pub mod Words
pub mod Bounds
