pub mod Steps
pub mod Numbers
pub mod KindRanges
pub mod Entries
pub mod Initial
pub mod DeviceCommands
pub mod DeviceKeys
pub mod Devices
