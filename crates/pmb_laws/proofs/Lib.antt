pub mod ShownLines
pub mod BuiltAgain
pub mod ResultText
pub mod SpelledText
pub mod RunCaptures
