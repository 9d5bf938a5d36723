pub mod PartialPacket
pub mod machine
pub mod Standing
