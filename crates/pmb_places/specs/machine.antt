-- What private fields say of the text that was given.
pub mod Standing
pub mod OpenWord
