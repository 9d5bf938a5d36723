pub mod Text
pub mod SoFar
pub mod Tell
pub mod Kept
pub mod Teller
pub mod machine
