-- The laws behind the engine, bottom-up: the worklist, the layout, propagation, the opening, a narrow of a state.
pub mod Worklists
pub mod Layouts
pub mod Propagation
pub mod Openings
pub mod States
