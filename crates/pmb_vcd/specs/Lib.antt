pub mod Body
pub mod Timescale
pub mod Tokens
pub mod Words
