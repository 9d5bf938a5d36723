pub mod Knowing
pub mod Open
