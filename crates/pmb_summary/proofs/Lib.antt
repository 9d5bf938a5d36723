mod Continuing
mod Kept
mod Sent
