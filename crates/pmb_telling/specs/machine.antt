-- What private fields say of what was given so far. No public contract needs these to be understood.
pub mod Standing
pub mod Ends
