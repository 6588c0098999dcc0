-- The counts of a word. Nothing here is proved: the laws stand in proofs/.
pub mod Tallies
