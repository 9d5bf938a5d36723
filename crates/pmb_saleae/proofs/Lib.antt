pub mod FieldLengths
pub mod LineClasses
pub mod NameLemmas
pub mod RowLemmas
pub mod TimeLemmas
