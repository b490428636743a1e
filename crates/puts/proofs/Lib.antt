-- Laws that belong to no one function. Assumes nothing.
pub mod Lists
pub mod Swaps
pub mod GivingUp
pub mod Putting
pub mod Unique
