pub mod Invalid
pub mod Text
pub mod Typed
pub mod machine
