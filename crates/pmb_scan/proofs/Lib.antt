pub mod Blanks
pub mod Passing
pub mod Reporting
pub mod Following
pub mod Wholes
pub mod Taking
