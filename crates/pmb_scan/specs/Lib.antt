pub mod Reached
pub mod Scan
pub mod machine
