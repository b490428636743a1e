-- What the contracts of `starts` cite. Assumes nothing.
pub mod Lines
pub mod Pulls
pub mod Queues
pub mod Walks
pub mod Backs
