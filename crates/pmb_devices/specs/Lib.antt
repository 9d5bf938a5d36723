pub mod Bus
pub mod Stops
pub mod Runs
pub mod Replies
pub mod Recorded
pub mod Signal
pub mod machine
