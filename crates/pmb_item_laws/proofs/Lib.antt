mod Objects
mod Reasons
