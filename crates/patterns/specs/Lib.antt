pub mod Small
pub mod Numbers
pub mod Spanned
