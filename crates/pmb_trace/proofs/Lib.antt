pub mod Bytes
pub mod Colons
pub mod Ends
pub mod Events
pub mod Losses
