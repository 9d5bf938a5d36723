pub mod Objects
pub mod Pieces
pub mod Mended
pub mod Cut
pub mod Lines
pub mod OnBus
