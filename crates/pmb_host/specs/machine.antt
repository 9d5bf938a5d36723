-- What the private fields say of what was heard.
pub mod Legs
pub mod Replies
pub mod Standing
pub mod Checks
