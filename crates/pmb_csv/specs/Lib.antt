pub mod Columns
pub mod Fields
pub mod Left
pub mod Rows
