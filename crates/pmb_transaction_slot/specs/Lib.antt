pub mod TransactionKind
pub mod TransactionSlot
pub mod machine
