-- What the code counts with.
pub mod DataLeft
pub mod Answers
pub mod Legs
