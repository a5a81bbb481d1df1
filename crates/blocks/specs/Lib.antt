pub mod mirror
pub mod Block
pub mod Head
pub mod Tables
