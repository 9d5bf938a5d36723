-- What the numbers of a lexer say of the text that it was given.
pub mod Standing
pub mod Bytes
