-- What the code's own functions return.
pub mod Shapes
