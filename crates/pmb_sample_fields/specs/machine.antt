pub mod Columns
pub mod Digits
pub mod Left
pub mod Parts
