pub mod Layout
pub mod Columns
pub mod Packets
pub mod Refusals
pub mod Line
