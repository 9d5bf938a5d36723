-- What private fields keep of the events that were given.
pub mod KeptLegs
pub mod Keeping
