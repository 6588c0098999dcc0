-- What the search starts from, and what it gives.
pub mod Searches
