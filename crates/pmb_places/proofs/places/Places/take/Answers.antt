use Rattle.std.proofs.Common.{ℕ, List, ◌++◌, ◌∷◌, [], subst, sym, ap, ◌∙◌}
use Rattle.pmb_places.specs.Places.{PlacesStandAt}
use Rattle.pmb_places.specs.declared.places.Places.{Places}
use Rattle.pmb_places.specs.machine.Standing.{behind_word, place_beside}
use Rattle.pmb_places.proofs.ShortWords.{stands_one, stands_two}
use Rattle.pmb_places.proofs.places.Places.take.Goals as goal

pub returns-in-Between-One : goal.returns-in-Between-One
returns-in-Between-One c = λ text stands.
    let word = c.in-Between-One.ensures in
    let old = c.args.self.now in
    subst (λ (given : List ℕ). PlacesStandAt c.take_word.new.self (text ++ given)) (sym word.2)
    (subst (λ (places : Places). PlacesStandAt places (text ++ word.0 ∷ 32 ∷ []))
    (sym (c.take_word.ensures ∙ ap (behind_word old) c.beside.ensures))
    (stands_one old text word.0 stands word.1 c.in-Between-One.is-0))

pub returns-in-Between-Two : goal.returns-in-Between-Two
returns-in-Between-Two c = λ text stands.
    let word = c.in-Between-Two.ensures in
    let old = c.args.self.now in
    subst (λ (given : List ℕ). PlacesStandAt c.take_word-in-Between-Two.new.self (text ++ given)) (sym word.4)
    (subst (λ (places : Places). PlacesStandAt places (text ++ word.0 ∷ word.1 ∷ 32 ∷ []))
    (sym (c.take_word-in-Between-Two.ensures
    ∙ ap (behind_word old) (c.beside-in-Between-Two-2.ensures ∙ ap place_beside c.beside-in-Between-Two.ensures)))
    (stands_two old text word.0 word.1 stands word.2 word.3 c.in-Between-Two.is-0))
