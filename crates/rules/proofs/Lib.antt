pub mod Naming
pub mod Columns
pub mod Chain
pub mod Least
pub mod Repeats
pub mod Order
