-- The format FGB1, the whole check, in reading order: Verdicts to Decoding are the papers' words, the verdict, what the place of a faulty row tells, and
-- the book that the bytes stand for; heads and rows are those of crates heads and rows. Refusals is for those who read the code; Acceptance has worked
-- examples. Nothing here is proved: the laws stand in proofs/.
pub mod Verdicts
pub mod Places
pub mod Decoding
pub mod Refusals
pub mod Acceptance
