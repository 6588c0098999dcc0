-- What the program prints, of the bytes that it reads.
pub mod Prints
