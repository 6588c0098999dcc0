-- The bytes of a list, the numbers that they make, and a list written over. Nothing here is proved: the laws stand in proofs/.
pub mod Bytes
