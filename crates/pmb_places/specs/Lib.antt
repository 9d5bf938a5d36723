pub mod Text
pub mod Places
pub mod OpenWord
pub mod ShortWord
pub mod Bounds
pub mod machine
