pub mod Arms
pub mod Merged
pub mod Within
pub mod Fits
pub mod Projected
pub mod Sound
