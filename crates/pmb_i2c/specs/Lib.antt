pub mod Wire
pub mod Signals
pub mod Message
