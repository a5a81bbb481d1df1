pub mod Leaves
pub mod Promises
