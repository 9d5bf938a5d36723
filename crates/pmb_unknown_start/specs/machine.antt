-- What private parts of the code say. No public contract is understood by these.
pub mod Keeping
pub mod Standing
