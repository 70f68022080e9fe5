pub mod Widths
pub mod Told
pub mod Reads
pub mod Scaled
