-- Laws that belong to no one function. Assumes nothing.
pub mod Sweeps
pub mod Searches
pub mod Writes
pub mod Rows
pub mod Unique
