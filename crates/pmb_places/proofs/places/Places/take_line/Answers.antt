use Rattle.std.proofs.Common.{◌++◌, ◌∷◌, [], ◌∙◌, ap, subst, sym}
use Rattle.pmb_bus.specs.declared.event.Event.TheVariants.{Stop}
use Rattle.pmb_bus.specs.Event.{canonical_text}
use Rattle.pmb_places.specs.Places.{PlacesStandAt}
use Rattle.pmb_places.specs.machine.Standing.{behind_line}
use Rattle.pmb_places.proofs.Lines.{stands_behind_line}
use Rattle.pmb_places.proofs.places.Places.take_line.Goals as goal

pub returns : goal.returns
returns c = λ text events stands between small none all.
    subst (λ places. PlacesStandAt places (text ++ canonical_text (events ++ Stop ∷ [])))
    (sym (c.take_last_word.ensures ∙ ap behind_line c.further_along.ensures))
    (stands_behind_line c.args.self.now.here text events c.args.bytes c.saturating_sub.result stands.here between small
    none all c.saturating_sub.ensures)
