-- What the steps of a call come to. No public contract needs these to be understood.
pub mod Steps
