-- The laws behind the search.
pub mod Searches
