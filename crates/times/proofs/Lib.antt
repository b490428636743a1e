-- Laws that belong to no one function. Assumes nothing.
pub mod Graphing
pub mod Timing
pub mod Judging
pub mod Mending
pub mod Settling
pub mod Unique
