pub mod Building
pub mod CommonLines
