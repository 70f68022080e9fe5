pub mod Entries
pub mod Products
pub mod Decisions
