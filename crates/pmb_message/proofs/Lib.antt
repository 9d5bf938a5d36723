pub mod Bounds
pub mod Sends
