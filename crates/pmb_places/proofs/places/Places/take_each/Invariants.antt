use Rattle.std.proofs.Common.{◌++◌, List, ℕ, take}
use Rattle.pmb_places.specs.Places.{PlacesStandAt}
use Rattle.pmb_places.proofs.places.Places.take_each.Given as goal

-- it stands after the bytes so far
abbrev pub invariant-loop-byte : goal.invariant-loop-byte
invariant-loop-byte l = (text : List ℕ) → PlacesStandAt l.fn.self text
    → PlacesStandAt l.self (text ++ take l.byte-index l.bytes)
