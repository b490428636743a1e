-- What the times promise. Assumes nothing.
pub mod Words
pub mod Settles
