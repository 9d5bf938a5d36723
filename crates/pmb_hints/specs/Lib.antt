pub mod Fault
pub mod Hints
pub mod Place
