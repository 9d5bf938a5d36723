pub mod Digits
pub mod Shapes
pub mod Spellings
