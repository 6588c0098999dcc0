-- The laws behind a first look at the sheets and behind rows that rise; those of the rows and of a look at a block are in crate rows.
pub mod Doubts
pub mod Rises
