-- The definitions that the contracts of `words` cite. Assumes nothing.
pub mod Words
