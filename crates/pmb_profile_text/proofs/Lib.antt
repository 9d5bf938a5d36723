pub mod Commands
pub mod Names
pub mod SomePage
pub mod Texts
