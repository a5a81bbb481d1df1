-- What the contracts of the crate's own functions cite, and nobody else need read. Assumes nothing.
pub mod Names
pub mod Chain
pub mod Blame
