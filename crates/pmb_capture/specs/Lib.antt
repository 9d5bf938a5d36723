pub mod Lines
pub mod Output
pub mod Written
pub mod Show
pub mod Check
pub mod Cut
pub mod machine
