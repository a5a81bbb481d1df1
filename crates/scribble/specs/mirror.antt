-- The reader that the code follows, and what the contracts of the code cite. Assumes nothing.
pub mod Reader
pub mod Acts
pub mod Scan
pub mod Starts
pub mod Least
pub mod Blamed
pub mod Sorts
