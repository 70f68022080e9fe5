-- The proofs of the C interface. Assumes nothing.
pub mod Answering
pub mod Returning
pub mod PrintedBack
