-- Laws. Assumes nothing.
pub mod Chaining
pub mod Sought
pub mod Turning
pub mod Nexts
pub mod Listing
pub mod Tallying
pub mod Lineups
pub mod Backways
pub mod Weighed
pub mod Judging
