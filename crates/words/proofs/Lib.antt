-- The laws behind the passes, bottom-up: places in the book, the index, pass 1, pass 2.
pub mod Places
pub mod Indexes
pub mod Cuts
pub mod Gathers
