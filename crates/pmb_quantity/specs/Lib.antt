pub mod Fraction
pub mod Quantity
pub mod QuantityText
pub mod Reading
pub mod Character
pub mod machine
pub mod Laws
