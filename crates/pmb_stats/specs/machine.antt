-- What private values say. No public contract is understood by these.
pub mod Observed
pub mod DeviceCounts
pub mod TimeSpan
pub mod Standing
