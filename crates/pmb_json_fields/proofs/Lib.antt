pub mod Pieces
pub mod Registers
pub mod Texts
pub mod Keys
