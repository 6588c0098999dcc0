-- The laws behind a run: a list on its way, the number and the space of a run.
pub mod Runs
pub mod Results
