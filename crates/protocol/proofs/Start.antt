pub mod Encodes
pub mod Begins
