pub mod Exported
pub mod Returned
