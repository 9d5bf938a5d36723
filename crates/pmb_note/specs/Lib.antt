pub mod Paging
pub mod Context
pub mod Note
pub mod machine
