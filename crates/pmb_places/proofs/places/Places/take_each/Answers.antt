use Rattle.std.proofs.Common.{◌++◌, ◌∷◌, [], ℕ, List, get_or, subst, sym, take, arith}
use Rattle.std.proofs.lemmas.List.{append_assoc, take_more}
use Rattle.pmb_places.specs.Places.{PlacesStandAt}
use Rattle.pmb_places.specs.declared.places.Places.{Places}
use Rattle.pmb_places.proofs.Bytes.{stands_after}
use Rattle.pmb_places.proofs.places.Places.take_each.Goals as goal

pub loop-byte-preserved : goal.loop-byte-preserved
loop-byte-preserved c = λ text stands.
    let bytes = c.args.bytes.now in
    let index = c.loop-byte.byte-index in
    let next = get_or bytes index 0 in
    subst (λ (given : List ℕ). PlacesStandAt c.take_byte.new.self (text ++ given))
    (sym (take_more bytes index 0 (omega arith)))
    (subst (λ (given : List ℕ). PlacesStandAt c.take_byte.new.self given)
    (append_assoc text (take index bytes) (next ∷ []))
    (subst (λ (places : Places). PlacesStandAt places ((text ++ take index bytes) ++ next ∷ []))
    (sym c.take_byte.ensures)
    (stands_after c.loop-byte.self (text ++ take index bytes) next (c.loop-byte.invariant text stands))))
