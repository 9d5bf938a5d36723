mod Lengths
pub mod Records
