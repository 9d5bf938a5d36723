-- What the fields of an exchange, and its bus, say of what was recorded.
pub mod Standing
