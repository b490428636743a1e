-- What load, put and verdict promise, and a history of calls. Assumes nothing.
pub mod Loads
pub mod Fills
pub mod Shows
pub mod Changes
pub mod History
