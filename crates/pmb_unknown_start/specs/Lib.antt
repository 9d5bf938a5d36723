pub mod Restores
pub mod Known
pub mod Past
pub mod Taken
pub mod Phase
pub mod Late
pub mod Certain
pub mod machine
