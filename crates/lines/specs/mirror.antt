pub mod Places
pub mod Runs
