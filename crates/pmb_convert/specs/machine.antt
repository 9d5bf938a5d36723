pub mod Converting
pub mod Parts
