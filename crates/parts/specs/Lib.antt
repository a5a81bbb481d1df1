pub mod Part
pub mod Absent
pub mod Merge
pub mod Projection
pub mod Before
pub mod Layout
pub mod mirror
