-- What is kept from one request to the next.
pub mod Bench
pub mod Laws
pub mod Running
