mod Cleared
mod Changed
mod Held
mod Places
mod Beginning
mod StatusCodes
mod Count
