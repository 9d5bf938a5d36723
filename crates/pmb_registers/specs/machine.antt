-- What the code keeps of registers.
pub mod Registers
pub mod Places
pub mod StatusCodes
