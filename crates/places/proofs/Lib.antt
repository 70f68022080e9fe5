pub mod Counted
pub mod Falls
