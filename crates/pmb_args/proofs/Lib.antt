pub mod Addresses
pub mod AskedLemmas
pub mod AskedOnce
pub mod AskedWords
pub mod CommandLemmas
pub mod EachOnce
pub mod FactWords
pub mod FactsOnce
pub mod FailWords
pub mod FirstFaults
pub mod GivenWords
pub mod ImportOnce
pub mod ImportWords
pub mod Names
pub mod StatsOnce
pub mod StatsWords
mod WordsExamples
