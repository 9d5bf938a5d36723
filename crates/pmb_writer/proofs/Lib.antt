pub mod Bodies
pub mod Decisions
pub mod LegBytes
pub mod LegTexts
pub mod Packets
pub mod RefusedLegs
pub mod Rules
pub mod Written
