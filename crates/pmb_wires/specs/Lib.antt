pub mod Added
pub mod Changes
pub mod Kinds
pub mod Rows
pub mod Signals
pub mod Spikes
pub mod machine
