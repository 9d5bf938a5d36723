pub mod Bits
pub mod Standing
pub mod Alike
pub mod machine
