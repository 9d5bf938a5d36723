pub mod BitCounts
pub mod NumberCounts
pub mod Standing
pub mod Alike
pub mod machine
