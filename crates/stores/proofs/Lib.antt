-- Laws that belong to no one function. Assumes nothing.
pub mod Openings
pub mod Tabled
pub mod Penalties
pub mod Promises
pub mod Summing
pub mod Scores
pub mod Readings
pub mod Resets
pub mod Retracting
pub mod Laying
