pub mod CodeSet
pub mod LegStart
pub mod Seen
pub mod Draft
pub mod Writing
