-- The laws behind the test of a sheet's choices: fewer rows than choices, tables of rows, what they allow, and the sheet in the model's words.
pub mod Fewer
pub mod Tables
pub mod Covers
pub mod Sheets
