-- What the contracts of `blocks` cite. Assumes nothing.
pub mod Latests
pub mod Arcs
pub mod Seen
pub mod Overs
pub mod Searches
pub mod Promise
