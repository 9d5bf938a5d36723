pub mod Modes
pub mod Stopless
pub mod Feeding
pub mod Accounts
