mod Made
mod Standing
mod Stopped
