pub mod Exchange
pub mod Run
pub mod machine
pub mod Steps
