pub mod Bytes
pub mod Command
pub mod Number
pub mod Pec
pub mod Refusal
pub mod Item
pub mod Record
