pub use Rattle.pmb_vid.specs.declared.table.VidTable
pub mod Answer
pub mod Laws
pub mod Lines
pub mod Spelling
pub mod machine
