pub mod Examples
pub mod Lists
pub mod Openings
pub mod Promises
pub mod Reading
pub mod Replies
pub mod Settings
pub mod Showing
