-- The format FGB1, its rows: Rows is the papers' words, where rows stand, the first fault in them, and rows that rise. Bounds is for those who read the
-- code; Acceptance has worked examples. Nothing here is proved: the laws stand in proofs/.
pub mod Rows
pub mod Bounds
pub mod Acceptance
