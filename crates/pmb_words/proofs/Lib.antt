pub mod Parted
pub mod WordLemmas
