-- The laws of the walk that counts.
pub mod Tallies
