pub mod Reading
pub mod Recording
pub mod Telling
pub mod Promises
