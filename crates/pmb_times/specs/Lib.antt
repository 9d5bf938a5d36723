pub mod Line
pub mod TextLine
pub mod TimeLine
pub mod Text
pub mod Times
pub mod machine
