pub mod Scaling
pub mod Deciding
