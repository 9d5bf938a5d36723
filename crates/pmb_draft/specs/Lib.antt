pub mod Events
pub mod Seen
pub mod Left
pub mod Draft
pub mod Result
pub mod machine
