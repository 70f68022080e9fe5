pub mod Sides
pub mod Middles
pub mod Settling
