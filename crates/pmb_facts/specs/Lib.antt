pub mod Fact
pub mod Stands
pub mod Packets
pub mod Object
