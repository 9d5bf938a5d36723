pub mod Onwards
pub mod ShortLegs
pub mod Answers
pub mod Stands
pub mod Room
