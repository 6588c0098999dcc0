-- The laws of numbers made of bytes, and of lists written over.
pub mod Bytes
