-- The laws behind a look, bottom-up: values counted, columns struck, and the whole look.
pub mod Counts
pub mod Strikes
pub mod Looks
