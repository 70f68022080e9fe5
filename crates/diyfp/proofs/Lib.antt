pub mod Standing
pub mod Lowering
pub mod Splitting
pub mod Shifting
pub mod Bounding
pub mod Multiplying
pub mod Caching
