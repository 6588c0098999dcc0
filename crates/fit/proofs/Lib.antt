-- The laws behind the program: the columns that a line shows.
pub mod Prints
