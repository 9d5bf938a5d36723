pub mod Marked
pub mod Marks
