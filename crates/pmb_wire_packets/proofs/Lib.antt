pub mod CaptureLaw
pub mod Digits
pub mod DrawnForm
pub mod DrawnLaw
pub mod PiecesLaw
