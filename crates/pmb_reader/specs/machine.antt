-- What the private parts of a reader say of the events that it was given. No public contract needs
-- these to be understood.
pub mod Standing
