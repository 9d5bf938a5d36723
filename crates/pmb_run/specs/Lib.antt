pub mod Answer
pub mod Heard
pub mod Kept
pub mod Lines
pub mod machine
