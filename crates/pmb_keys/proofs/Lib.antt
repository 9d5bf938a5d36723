pub mod Steps
pub mod Arrays
pub mod AddressFlags
pub mod Named
pub mod InitialFaults
pub mod NamedBits
