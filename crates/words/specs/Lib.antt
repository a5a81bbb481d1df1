pub mod Below
pub mod Rows
