mod Alike
mod Buses
mod Devices
mod OneAnswer
mod OneEnd
