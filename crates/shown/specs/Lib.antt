-- What the contracts of `shown` cite. Assumes nothing.
pub mod Distances
pub mod Cycles
pub mod Lowests
