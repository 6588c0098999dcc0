-- Status and done byte of a state. Nothing here is proved: the laws stand in proofs/.
pub mod Status
