-- What private fields say. No public contract is understood by these.
pub mod FailList
