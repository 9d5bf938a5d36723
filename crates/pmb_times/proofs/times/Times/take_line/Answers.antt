use Rattle.std.proofs.Common.{◌∷◌, [], ◌++◌, List, ℕ, subst, sym}
use Rattle.pmb_bus.specs.declared.event.Event.TheVariants.{Stop}
use Rattle.pmb_bus.specs.Event.{canonical_text}
use Rattle.pmb_times.specs.declared.times.LineState.TheVariants.{Empty}
use Rattle.pmb_times.specs.machine.Standing.{FieldsStandAt}
use Rattle.pmb_times.proofs.Words.{stands_behind_line}
use Rattle.pmb_times.proofs.times.Times.take_line.Goals as goal

pub returns : goal.returns
returns c = λ text events stands between small some.
    let old = c.args.self.now in
    let after = text ++ canonical_text (events ++ Stop ∷ []) in
    subst (λ (gap : List ℕ). FieldsStandAt Empty old.line.items gap c.clear-2.new.self.items after)
    (sym c.clear.ensures)
    (subst (λ (word : List ℕ). FieldsStandAt Empty old.line.items [] word after) (sym c.clear-2.ensures)
    (stands_behind_line events old.state old.line.items old.gap.items old.word.items text stands between small some))
