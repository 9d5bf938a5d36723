pub mod Ending
pub mod FedLaw
pub mod HeadlessLaw
pub mod Joined
pub mod NameLemmas
pub mod ReadsLaw
pub mod RisesLaw
pub mod WhyDigits
