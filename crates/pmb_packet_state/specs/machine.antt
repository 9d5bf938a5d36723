-- What is kept of a packet under way. No public contract needs this to be understood.
pub mod PacketState
