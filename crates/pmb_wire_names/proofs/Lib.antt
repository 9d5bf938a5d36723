pub mod KeptLaw
pub mod NameLemmas
