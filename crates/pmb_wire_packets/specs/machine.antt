pub mod Steps
pub mod Wired
