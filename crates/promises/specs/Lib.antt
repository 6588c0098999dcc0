-- Promises: the demands in the customer's words, of the bytes that runs leave. Comparisons: demand 3, whole, of the sessions too. Twins: two books
-- that allow the same. Nothing here is proved: the laws stand in proofs/.
pub mod Promises
pub mod Comparisons
pub mod Twins
