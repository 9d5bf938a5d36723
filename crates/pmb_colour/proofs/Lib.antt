pub mod Cutting
pub mod Parts
pub mod Texts
pub mod TakenOut
pub mod Puts
pub mod Whole
pub mod Gone
