-- Holds: what a session holds, and what an order makes of it. Readings: what the bytes of an order are read as. Lists: lists of orders as bytes. Nothing here is proved: the laws stand in proofs/.
pub mod Holds
pub mod Readings
pub mod Lists
