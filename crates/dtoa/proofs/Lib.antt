pub mod Outcomes
pub mod Unique
pub mod Idle
pub mod Calls
pub mod RowOutcomes
pub mod RowCalls
pub mod RowIdle
