-- The new route of a move, and what the four calls promise. Assumes nothing.
pub mod Pieces
pub mod Stopping
pub mod Calls
