mod Empty
mod Found
mod Registers
mod Wholes
