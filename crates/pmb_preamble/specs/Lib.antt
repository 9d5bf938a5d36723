pub mod Front
pub mod machine
