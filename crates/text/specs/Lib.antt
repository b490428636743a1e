-- What the text promises. Assumes nothing.
pub mod Answers
pub mod Grammar
pub mod Reads
pub mod Writes
