pub mod Fields
pub mod Line
pub mod Rows
pub mod Views
pub mod machine
