pub mod Profile
pub mod machine
