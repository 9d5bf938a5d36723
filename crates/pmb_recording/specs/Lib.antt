pub mod Classes
pub mod Content
pub mod Recording
pub mod Runs
pub mod Told
pub mod Wire
pub mod machine
