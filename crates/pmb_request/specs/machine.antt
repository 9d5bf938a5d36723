-- What a reader of request lines knows between two words. No public contract needs this to be
-- understood.
pub mod Reading
pub mod Pieces
