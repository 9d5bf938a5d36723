pub mod Members
pub mod Counts
pub mod Pages
pub mod Objects
pub mod Laws
pub mod machine
