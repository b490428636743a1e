-- Laws that belong to no one function. Assumes nothing.
pub mod Halved
pub mod Laid
pub mod Listed
pub mod Promised
pub mod Positions
pub mod Unique
pub mod Historied
