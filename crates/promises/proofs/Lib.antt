-- The promises, two lists compared, and two books.
pub mod Promises
pub mod Comparisons
pub mod Twins
