-- What a reader of lines knows between two words. No public contract needs this to be understood.
pub mod Stop
pub mod Reading
pub mod Front
pub mod Left
pub mod Pieces
pub mod LineText
