-- What private fields say of what was given so far. No public contract needs these to be understood.
pub mod Begun
pub mod Counts
pub mod Inside
pub mod OpenTime
pub mod Front
pub mod Losing
pub mod Knowing
pub mod Putting
