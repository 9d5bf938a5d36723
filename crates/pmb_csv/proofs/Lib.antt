pub mod ColumnLemmas
pub mod LineLemmas
pub mod QuoteLemmas
pub mod TextLemmas
