pub mod Queues
pub mod Ranges
pub mod Turning
pub mod Sound
pub mod Judging
pub mod Sets
pub mod Acting
pub mod Passed
