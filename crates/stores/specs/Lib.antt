-- What a store stands for, and what every call promises. Assumes nothing.
pub mod Words
pub mod Promise
pub mod Headers
pub mod Held
pub mod Sums
pub mod Says
