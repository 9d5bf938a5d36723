pub mod Classes
pub mod Events
pub mod Packets
pub mod Protocols
pub mod Transfers
pub mod Views
