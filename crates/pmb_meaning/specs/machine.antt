-- What private parts of the code say. No public contract is understood by these.
pub mod Rows
pub mod Room
pub mod Sound
