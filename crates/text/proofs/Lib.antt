-- Laws that belong to no one function. Assumes nothing.
pub mod Decimals
pub mod Gathers
pub mod LineEnds
pub mod Namings
pub mod Pieces
pub mod Placing
pub mod Reading
pub mod Returning
pub mod Runs
pub mod Sampled
pub mod Scans
pub mod Tabled
pub mod Unique
