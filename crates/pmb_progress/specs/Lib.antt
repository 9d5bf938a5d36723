pub mod Due
pub mod Stops
pub mod Line
pub mod Over
pub mod Rows
