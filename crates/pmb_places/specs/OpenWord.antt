-- What an `OpenWord` was given: `OpenWordStandsAt word text` says that these are the bytes since `new`.
-- What that says of its own fields is in `machine`, and nothing else needs it to be understood.
pub use Rattle.pmb_places.specs.machine.OpenWord.{OpenWordStandsAt}
