pub mod Bytes
pub mod Classes
pub mod Columns
pub mod Export
pub mod Packets
pub mod Rows
pub mod Time
pub mod Views
