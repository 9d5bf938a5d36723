-- What is written piece by piece. No public contract is understood by these.
pub mod Standing
pub mod Written
