pub mod Voltage
pub mod Laws
