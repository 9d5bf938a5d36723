-- What private fields say. No public contract is understood by these.
pub mod KeptTime
pub mod Standing
pub mod Seeing
