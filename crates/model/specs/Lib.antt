-- The definitions and statements of the model, in reading order. Nothing here is proved: the laws stand in proofs/.
--
--     document 01's word       the name here                  document 01's word     the name here
--     box, sound box           store, consistent store        standing list          trail
--     settled domains          closure                        bar, mark              checkpoint
--     full set                 solution                       dead, decided          failed, assigned
--     live row                 valid row                      done (of a sheet)      subsumed
--     row with 255             short row                      allowed combination    allowed tuple
pub mod Tests
pub mod Masks
pub mod Stores
pub mod Closure
pub mod Choices
pub mod Books
pub mod Solutions
pub mod Search
pub mod Orders
pub mod Answers
pub mod States
pub mod Demands
pub mod Twins
pub mod WrittenOut
pub mod Acceptance
