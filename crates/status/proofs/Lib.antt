-- The laws behind status and done byte: masks and counts that are gathered place by place, and what a state says.
pub mod Counts
pub mod Summaries
