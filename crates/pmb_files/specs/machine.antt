-- What private fields say. No public contract is understood by these.
pub mod Words
pub mod Joined
pub mod Head
pub mod FailsHead
pub mod Unannounced
pub mod Contradicts
pub mod Said
pub mod Color
