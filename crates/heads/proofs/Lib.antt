-- The laws behind blocks and head: what a field must not be, blocks, the head field by field.
pub mod Acceptance
pub mod Limits
pub mod Blocks
pub mod Heads
