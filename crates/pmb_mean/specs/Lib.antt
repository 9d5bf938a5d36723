pub mod Numbers
pub mod Words
pub mod MeanText
pub mod Laws
pub mod Alike
pub mod machine
