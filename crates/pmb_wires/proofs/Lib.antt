pub mod AddedLaw
pub mod ExchangedLaw
pub mod FilterLaw
pub mod KindLemmas
pub mod SpikeLemmas
pub mod TrackerLaw
