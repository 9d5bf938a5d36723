pub mod Count
pub mod Counter
