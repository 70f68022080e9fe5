pub mod Casts
pub mod Slopes
pub mod Indexing
