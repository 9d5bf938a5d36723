pub mod Value
pub mod Laws
pub mod machine
