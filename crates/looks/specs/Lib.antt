-- Counts and Strikes: what the steps of a look make. Looks: a whole look at a sheet, which is all that the engine sees of it.
pub mod Counts
pub mod Strikes
pub mod Looks
