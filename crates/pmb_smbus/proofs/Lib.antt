pub mod Fronts
pub mod LineClasses
pub mod Lines
pub mod Short
pub mod Wire
