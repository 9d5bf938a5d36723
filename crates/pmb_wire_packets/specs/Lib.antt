pub mod Bits
pub mod Drawn
pub mod Packets
pub mod Pieces
pub mod Reasons
pub mod Rows
pub mod Time
pub mod machine
