pub mod Extremes
pub mod Answers
pub mod Magnitudes
pub mod Unique
