pub mod Request
pub mod Spelling
pub mod Fault
pub mod RequestFault
pub mod machine
