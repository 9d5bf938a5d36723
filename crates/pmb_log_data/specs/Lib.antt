pub mod Appends
pub mod Text
pub mod Data
pub mod Whole
