pub mod Building
pub mod CommonLines
pub mod OneBuilding
pub mod SomeText
