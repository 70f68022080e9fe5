pub mod Halving
pub mod Packing
