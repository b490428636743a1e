-- Laws that belong to no one function. Assumes nothing.
pub mod Checking
pub mod Fresh
pub mod Accepting
pub mod Lengths
pub mod Showing
pub mod Putting
pub mod Histories
pub mod Unique
pub mod Heeding
