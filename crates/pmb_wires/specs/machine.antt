pub mod Tracker
pub mod Waiting
