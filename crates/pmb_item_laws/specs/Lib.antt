pub mod Kind
pub mod Data
