-- The laws of sessions, of one order, and of lists of orders.
pub mod Holds
pub mod Readings
pub mod Lists
