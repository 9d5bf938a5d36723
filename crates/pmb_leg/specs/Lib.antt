pub mod Leg
pub mod Reply
pub mod machine
