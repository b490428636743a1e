-- Laws that belong to no one function. Assumes nothing.
pub mod Settling
pub mod Running
pub mod Stepping
pub mod Calming
pub mod Searching
pub mod Emitting
pub mod Unique
