-- What the private parts of a lexer say of the text that it was given. No public contract needs
-- these to be understood.
pub mod Bytes
pub mod Standing
pub mod Steps
