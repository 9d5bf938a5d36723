pub mod Left
pub mod Numbers
pub mod Parts
pub mod Rows
