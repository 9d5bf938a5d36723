pub mod Legs
pub mod Puts
pub mod Runs
pub mod Texts
