pub mod Tables
pub mod NearestVid
