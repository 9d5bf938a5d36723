pub mod Texts
pub mod Spans
pub mod Outcomes
pub mod Endings
pub mod Running
pub mod Shown
pub mod SomeText
pub mod Cuts
