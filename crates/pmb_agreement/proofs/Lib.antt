pub mod Profiles
pub mod Stopping
pub mod Agreeing
