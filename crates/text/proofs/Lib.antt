pub mod Masks
pub mod Spelling
pub mod Showing
