-- What the contracts of `probes` cite. Assumes nothing.
pub mod Chains
pub mod Pairs
pub mod Gathered
pub mod Seen
pub mod Aheads
pub mod Fulls
pub mod Quicks
pub mod Judges
