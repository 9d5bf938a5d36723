pub mod Row
pub mod Widths
pub mod Counts
pub mod Rows
pub mod Table
pub mod machine
