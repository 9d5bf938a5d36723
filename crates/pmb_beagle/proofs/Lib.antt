pub mod QuoteLemmas
pub mod RowLemmas
pub mod WordCount
pub mod LineClasses
pub mod StepLemmas
