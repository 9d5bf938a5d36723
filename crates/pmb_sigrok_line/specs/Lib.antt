pub mod Annotation
pub mod Line
pub mod Rows
pub mod Shown
pub mod Time
pub mod machine
