-- What the code keeps while it reads a profile, and in a profile to look things up.
pub mod CommandMap
pub mod Places
pub mod Profile
pub mod StandardCommands
pub mod Top
