-- What private parts say of the events and the bytes that were given so far. No public contract
-- needs these to be understood.
pub mod Account
pub mod Capture
