-- What the code's own tables hold.
pub mod Rows
pub mod UnitRows
