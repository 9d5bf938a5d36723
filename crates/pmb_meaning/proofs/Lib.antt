pub mod BitLemmas
pub mod RowLemmas
pub mod LayoutLemmas
pub mod Turns
pub mod ValueLemmas
pub mod SoundLemmas
pub mod ObjectLemmas
