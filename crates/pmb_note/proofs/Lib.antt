pub mod Texts
pub mod OneLine
pub mod SetBits
pub mod StatusLemmas
pub mod Notes
pub mod ShortNotes
