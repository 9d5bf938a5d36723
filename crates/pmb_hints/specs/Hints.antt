-- The lines that help with a profile's fault.
use Rattle.std.specs.Prelude.{◌≡◌, ◌≢◌, ◌++◌, [], codes, ℕ, List, Option, Some, None, IfSome}
use Rattle.std.specs.Str.{IsUtf8, IsValidUpTo}
use Rattle.pmb_keys.specs.declared.fault.FaultKind.TheVariants.{OutOfMemory}
use Rattle.pmb_places.specs.declared.places.Place.{Place}
use Rattle.pmb_table.specs.declared.fault.ProfileFault.{ProfileFault}
use Rattle.pmb_hints.specs.Fault.{fault_line}
use Rattle.pmb_hints.specs.Place.{IsPlaceAt, IsPlaceIn, place_text}

-- Lines tell of a fault, and where it is: the first one begins with the place. Without a place there are none.
abbrev pub Tell : List ℕ → Option Place → Type 0
Tell lines None = lines ≡ []
Tell lines (Some place) = (rest : List ℕ) × (lines ≡ place_text place ++ rest)

-- These words are told of the byte at an offset of the text, after its place.
pub record TellsAt (text : List ℕ) (offset : ℕ) (words lines : List ℕ) (told : Option Place) : Type 0 where
  pub place : Place
  pub at : IsPlaceAt text offset place
  pub is : told ≡ Some place
  pub written : lines ≡ place_text place ++ words

-- .. of the first one that no UTF-8 has there
pub record TellsUtf8 (text lines : List ℕ) (told : Option Place) : Type 0 where
  pub offset : ℕ
  pub first : IsValidUpTo text offset
  pub tells : TellsAt text offset (codes "not UTF-8\n") lines told

-- The lines on a fault of a text, and its place. Which lines they are no definition says, but of want of memory
-- and of a text that isn't UTF-8.
pub record Hints (text : List ℕ) (fault : ProfileFault) (lines : List ℕ) (place : Option Place) : Type 0 where
  pub within : IfSome place (IsPlaceIn text)
  pub told : Tell lines place
  pub memory : fault.what ≡ OutOfMemory → place ≡ None
  pub utf8 : fault.what ≢ OutOfMemory → ¬ (IsUtf8 text) → TellsUtf8 text lines place

-- The line of the fault, and then its hints.
pub record Explains (profile : List ℕ) (fault : ProfileFault) (text : List ℕ) (place : Option Place) : Type 0 where
  pub lines : List ℕ
  pub is : text ≡ codes "pmb: " ++ fault_line fault ++ lines
  pub hints : Hints profile fault lines place
