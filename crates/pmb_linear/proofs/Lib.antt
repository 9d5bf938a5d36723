pub mod LinearRows
pub mod Linear11Lemmas
pub mod OneLinear11
pub mod Linear11Ends
pub mod Linear11Gap
pub mod Linear11Codes
pub mod Linear11Nearest
pub mod FixedExponent
