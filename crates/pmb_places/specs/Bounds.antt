-- Which numbers a place has.
use Rattle.std.specs.Prelude.{◌<◌, ◌≤◌, ◌^◌}
use Rattle.pmb_places.specs.declared.places.Place.{Place}

-- Lines and columns count from 1, and have 64 bits.
pub record IsInRange (place : Place) : Type 0 where
  pub some_line : 1 ≤ place.line
  pub line : place.line < 2 ^ 64
  pub some_column : 1 ≤ place.column
  pub column : place.column < 2 ^ 64
