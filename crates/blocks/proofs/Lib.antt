pub mod Walk
pub mod Far
pub mod Good
pub mod Lowest
pub mod Sound
pub mod Said
pub mod Held
