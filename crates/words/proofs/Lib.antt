pub mod Below
pub mod Sets
pub mod Zeros
