pub mod Magnitudes
pub mod OneHalf
pub mod HalfEnds
pub mod HalfNearest
