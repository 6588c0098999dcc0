-- In reading order: the layout of a book, the worklist, propagation, the opening, and the state (States, the one that the crates above cite).
-- Nothing here is proved: the laws stand in proofs/.
pub mod Layouts
pub mod Worklists
pub mod Propagation
pub mod Openings
pub mod States
