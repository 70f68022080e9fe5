pub mod Signs
pub mod Texts
pub mod Ruled
