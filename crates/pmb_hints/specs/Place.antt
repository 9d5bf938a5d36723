-- Places in a profile's text.
use Rattle.std.specs.Prelude.{◌≡◌, ◌≤◌, ◌++◌, ℕ, List, codes, decimal, length, take}
use Rattle.pmb_places.specs.declared.places.Place.{Place}
use Rattle.pmb_places.specs.Places.{place_behind}

-- The place of the byte at this offset of a text, from 0, or of its end: a line and a column of the text.
pub record IsPlaceAt (text : List ℕ) (offset : ℕ) (place : Place) : Type 0 where
  pub within : offset ≤ length text
  pub is : place ≡ place_behind (take offset text)

-- .. at some offset
abbrev pub IsPlaceIn : List ℕ → Place → Type 0
IsPlaceIn text place = (offset : ℕ) × IsPlaceAt text offset place

-- how a line names its place
abbrev pub place_text : Place → List ℕ
place_text place = codes "  line " ++ decimal place.line ++ codes ", column " ++ decimal place.column ++ codes ": "
