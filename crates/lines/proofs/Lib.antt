-- Laws that belong to no one function. Assumes nothing.
pub mod Blocking
pub mod Calling
pub mod Filling
pub mod Gathering
pub mod Sessions
pub mod Showing
pub mod Spelling
pub mod Stepping
pub mod Turning
pub mod Unique
