pub mod InTurn
pub mod Messages
pub mod Stops
