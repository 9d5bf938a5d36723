pub mod Log
pub mod Devices
pub mod Session
pub mod Work
