pub mod LineClasses
pub mod LineWords
pub mod MessageFields
pub mod WireLemmas
