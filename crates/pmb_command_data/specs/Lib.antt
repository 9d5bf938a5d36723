pub mod Standard
pub mod Bits
pub mod Text
pub mod Phases
