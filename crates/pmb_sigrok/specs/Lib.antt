pub mod Classes
pub mod Packets
