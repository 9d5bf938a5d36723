pub mod Sort
pub mod Counts
pub mod Sums
pub mod Faults
pub mod Fails
pub mod Standing
pub mod Alike
pub mod machine
