-- Laws that belong to no one function. Assumes nothing.
pub mod Opening
pub mod Running
pub mod Serving
pub mod Writing
