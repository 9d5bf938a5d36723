pub mod CallStatus
pub mod Format
pub mod Quantity
pub mod Number
pub mod Room
pub mod Event
pub mod Lexer
pub mod machine
