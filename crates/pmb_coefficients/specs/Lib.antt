pub mod Coefficients
pub mod Exponent
