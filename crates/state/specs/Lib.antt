pub mod mirror
pub mod Numbers
pub mod Refusals
pub mod State
pub mod Awaited
