pub mod Linear
pub mod machine
