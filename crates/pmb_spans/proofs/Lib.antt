pub mod Outcomes
pub mod OneSplit
pub mod Cuts
