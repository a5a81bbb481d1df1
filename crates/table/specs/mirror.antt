-- What the contracts of the links and the laws of the tree cite. Assumes nothing.
pub mod Names
pub mod Read
pub mod Kept
