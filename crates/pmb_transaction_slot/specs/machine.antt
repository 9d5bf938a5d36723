-- What the private parts say of what is kept. No public contract needs these to be understood.
pub mod TransactionSlot
