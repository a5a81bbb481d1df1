pub mod Keeps
pub mod Linked
pub mod Orders
pub mod Reach
pub mod Projects
