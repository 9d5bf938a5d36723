-- What the code counts with.
pub mod Lengths
pub mod Legs
