pub mod Holds
pub mod Sent
pub mod Steps
