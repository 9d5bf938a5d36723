-- What private fields say. No public contract needs more of these than the name `RoomStandsAt`.
pub mod Sights
pub mod Slots
pub mod Places
pub mod Finding
pub mod Standing
pub mod Beginning
pub mod Seeing
