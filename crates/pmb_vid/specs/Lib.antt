pub mod Vid
pub mod Names
pub mod machine
