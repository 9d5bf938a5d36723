-- What private fields say of what was given so far, and what private functions promise. No public
-- contract needs these to be understood.
pub mod Blank
pub mod Standing
pub mod Reported
pub mod Whole
