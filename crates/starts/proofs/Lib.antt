-- Laws. Assumes nothing.
pub mod Rows
pub mod Lining
pub mod Pulled
pub mod Queueing
pub mod Walking
pub mod Backed
pub mod Unique
