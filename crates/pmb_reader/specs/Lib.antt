pub mod Refusal
pub mod Standing
pub mod Reader
pub mod Feed
pub mod Reading
pub mod machine
