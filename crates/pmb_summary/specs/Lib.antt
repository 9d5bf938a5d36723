pub mod Choice
pub mod Summing
