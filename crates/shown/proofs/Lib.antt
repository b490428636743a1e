-- Laws. Assumes nothing.
pub mod Distanced
pub mod Cycled
pub mod Lowed
pub mod Unique
