pub mod Total
pub mod Times
pub mod Stands
pub mod Chunked
