pub mod Lists
pub mod Taking
pub mod SpotPlaces
pub mod Layers
pub mod Beginnings
pub mod Telling
pub mod Alike
