pub mod Lent
pub mod Leaves
