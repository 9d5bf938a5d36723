-- The place of a leg after parts: the first of its packet where there are none, else a later one
-- (`LegPlace`). For `place_behind` of `src/legs.rt`, which counts the parts that are kept.
use Rattle.std.proofs.Common.{◌≡◌, ◌≢◌, List, [], ◌∷◌, length, refl, arith}
use Rattle.pmb_leg.specs.declared.place.LegPlace.TheVariants.{First, Later}
use Rattle.pmb_leg.specs.Leg.{place_of}
use Rattle.pmb_transaction.specs.Transaction.{PartData}

pub first_behind_none : (parts : List PartData) → length parts ≡ 0 → First ≡ place_of parts
first_behind_none [] none = refl
first_behind_none (part ∷ parts) none = absurd (omega (arith, none))

pub later_behind_some : (parts : List PartData) → length parts ≢ 0 → Later ≡ place_of parts
later_behind_some [] some = absurd (some refl)
later_behind_some (part ∷ parts) some = refl
