pub mod Tape
pub mod Send
