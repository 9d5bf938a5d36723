pub mod Lines
pub mod TimeLines
pub mod Bytes
pub mod States
pub mod Gaps
pub mod Words
pub mod Pieces
pub mod TextLines
