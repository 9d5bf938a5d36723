pub mod Products
pub mod WordLemmas
