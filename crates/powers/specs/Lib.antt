pub mod Powers
pub mod Lines
pub mod Handy
pub mod Tabled
