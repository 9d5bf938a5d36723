-- What the code's own types stand for.
pub mod FurtherView
pub mod Addresses
pub mod KindWords
pub mod Typed
