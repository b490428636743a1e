-- The definitions that the contracts of `routes` cite. Assumes nothing.
pub mod Stops
pub mod Asks
pub mod Snapped
pub mod Store
pub mod Handing
pub mod Counting
pub mod Raw
pub mod Differs
pub mod Turning
pub mod Desks
pub mod Promises
