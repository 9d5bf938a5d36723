pub mod Choosing
pub mod Kept
pub mod Matching
pub mod Rows
pub mod Signals
