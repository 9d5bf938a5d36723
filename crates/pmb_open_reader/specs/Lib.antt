pub mod Acts
pub mod Owned
