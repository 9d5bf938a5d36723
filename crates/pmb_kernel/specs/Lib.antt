pub mod Classes
pub mod Events
pub mod Rows
pub mod Transfers
pub mod Views
