-- Sheets: the words of a sheet, and what each pass makes of them.
pub mod Sheets
