pub mod Marks
pub mod Fronts
pub mod Limits
pub mod FrontReads
