-- Counters: the walk over a sheet's rows. Steps: to which rows it may go on. Acceptance: worked examples. Nothing here is proved: the laws stand in proofs/.
pub mod Counters
pub mod Steps
pub mod Acceptance
