-- The laws behind the counters, bottom-up: masks of all places, where a row stands; and the worked examples.
pub mod Ones
pub mod Counters
pub mod Acceptance
