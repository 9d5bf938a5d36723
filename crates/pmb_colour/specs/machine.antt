-- What private fields say.
pub mod Painter
pub mod LineParts
