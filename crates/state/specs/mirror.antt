pub mod State
pub mod Turns
pub mod Judged
