pub mod Held
pub mod Input
pub mod Line
pub mod Over
pub mod Text
pub mod Promises
pub mod mirror
