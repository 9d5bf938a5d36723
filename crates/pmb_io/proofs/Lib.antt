pub mod Writing
pub mod Running
pub mod LineLemmas
pub mod LineRuns
pub mod RunLemmas
pub mod LineFronts
