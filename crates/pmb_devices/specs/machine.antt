-- What the fields of a bus say of where it stands.
pub mod Standing
pub mod Hands
pub mod Others
