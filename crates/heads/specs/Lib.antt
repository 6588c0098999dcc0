-- The format FGB1, first half, in document 01's words: limits, blocks, the head. Acceptance has worked examples. Nothing here is proved: the laws stand
-- in proofs/.
pub mod Limits
pub mod Blocks
pub mod Heads
pub mod Acceptance
