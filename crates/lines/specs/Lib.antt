-- What the program's lines come to, and what a whole run prints. Assumes nothing.
pub mod Sizes
pub mod Lines
pub mod Opens
pub mod Steps
pub mod Answers
pub mod Serves
pub mod Parts
pub mod Session
