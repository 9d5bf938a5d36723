pub mod Json
pub mod Spelling
pub mod Member
pub mod ReadBack
