-- A text in two pieces: the packets of each, by where the first ends.
use Rattle.std.proofs.Common.{◌≡◌, ◌∙◌, ℕ, ◌+◌, List, [], ◌∷◌, ◌++◌, add_assoc, ap, refl, sym, zero-add}
use Rattle.pmb_progress.specs.declared.place.Place.{Place}
use Rattle.pmb_progress.specs.Stops.{ended, place_after, place_behind, stops}

pub count_goes_on : (place : Place) (text more : List ℕ)
    → stops place (text ++ more) ≡ stops place text + stops (place_behind place text) more
count_goes_on place [] more = sym (zero-add (stops place more))
count_goes_on place (byte ∷ text) more =
    let next = place_after place byte in
    ap (λ (n : ℕ). ended place byte + n) (count_goes_on next text more)
    ∙ sym (add_assoc (ended place byte) (stops next text) (stops (place_behind next text) more))

pub place_goes_on : (place : Place) (text more : List ℕ)
    → place_behind place (text ++ more) ≡ place_behind (place_behind place text) more
place_goes_on place [] more = refl
place_goes_on place (byte ∷ text) more = place_goes_on (place_after place byte) text more
