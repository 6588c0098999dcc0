-- The laws of what an answer shows.
pub mod Shows
