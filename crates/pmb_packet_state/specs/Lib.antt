pub mod PacketState
pub mod machine
