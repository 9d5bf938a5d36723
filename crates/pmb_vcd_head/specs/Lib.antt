pub mod Head
pub mod Scopes
