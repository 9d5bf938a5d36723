-- What a `Places` was given: `PlacesStandAt places text` says that these are the bytes since `new`.
-- What that says of its own fields is in `machine`, and nothing else needs it to be understood.
pub use Rattle.pmb_places.specs.machine.Standing.{PlacesStandAt}
pub use Rattle.pmb_places.specs.Text.{
  place_after,
  place_behind,
  place_of_last_word,
  end_of_last_word,
  word_places,
  places_from,
}
