mod Lengths
mod LineClasses
mod WireLemmas
