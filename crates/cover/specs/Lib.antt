-- Choices, and the rows that match them. Nothing here is proved: the laws stand in proofs/.
pub mod Covers
