-- The laws behind the walks, bottom-up: walks over the rows of a word, the first stretch of a walk, rows that stand one after the other, values gathered.
pub mod Walks
pub mod Stretches
pub mod Halves
pub mod Collects
