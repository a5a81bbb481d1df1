pub mod Codes
pub mod Grows
pub mod Kinds
pub mod Rising
pub mod Stands
