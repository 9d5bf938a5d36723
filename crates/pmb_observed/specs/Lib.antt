pub mod Spot
pub mod Observed
pub mod Observing
pub mod Told
