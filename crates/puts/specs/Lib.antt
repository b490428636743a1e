-- What a put promises. Assumes nothing.
pub mod Puts
