pub mod Laid
pub mod Leads
pub mod Good
pub mod Views
pub mod Opening
pub mod Tables
