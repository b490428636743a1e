-- The definitions that the contracts of `edges` cite. Assumes nothing.
pub mod Layout
pub mod Rows
pub mod Raw
pub mod Edges
pub mod Ends
pub mod Lists
pub mod Plans
pub mod Fixed
pub mod Drafting
