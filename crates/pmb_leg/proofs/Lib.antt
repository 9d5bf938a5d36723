mod Wires
mod Lefts
mod Replies
mod Bodies
mod Legs
mod Sayings
mod Asking
