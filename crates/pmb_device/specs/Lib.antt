pub mod Legs
pub mod Rules
pub mod Ends
pub mod DevicePacket
pub mod Device
pub mod machine
