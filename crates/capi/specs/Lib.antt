-- What the calls for C promise. Assumes nothing.
pub mod Numbers
