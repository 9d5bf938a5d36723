pub mod Sums
pub mod Passed
pub mod Refused
pub mod Fronts
