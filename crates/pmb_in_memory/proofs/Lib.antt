pub mod Texts
pub mod Works
pub mod Laying
pub mod Faults
