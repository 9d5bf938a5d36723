pub mod Accepted
pub mod Also
pub mod StandardList
pub mod CommandMaps
pub mod CommandSteps
pub mod DeviceSteps
pub mod Places
pub mod TakenCodes
