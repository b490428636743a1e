-- What the program promises. Assumes nothing.
pub mod Prints
