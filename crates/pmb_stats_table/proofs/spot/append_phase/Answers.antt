use Rattle.std.proofs.Common.{Bool, [], ◌∷◌, ◌∙◌, ap, append-nil, arith, cond, sym}
use Rattle.std.proofs.lemmas.Bool.{eq-eqb, ne_eqb}
use Rattle.pmb_log_data.specs.Text.{at_right}
use Rattle.pmb_log_data.proofs.Texts.{called, nothing}
use Rattle.pmb_stats_table.specs.Row.{after_gap, after_gaps}
use Rattle.pmb_stats_table.proofs.spot.append_phase.Goals as goal

pub returns-then-width-gt0 : goal.returns-then-width-gt0
returns-then-width-gt0 c =
    let cell = at_right c.args.width c.args.phase.now in
    called (sym (append-nil (after_gap cell))
    ∙ sym (ap (λ (none : Bool). after_gaps (cond none [] (cell ∷ []))) (ne_eqb c.args.width 0
    (λ is. omega (arith, is, c.if-width-gt0.true)))))
    c.append_right.ensures

-- there is no such column
pub returns-else-width-gt0 : goal.returns-else-width-gt0
returns-else-width-gt0 c =
    let cell = at_right c.args.width c.args.phase.now in
    called (sym (ap (λ (none : Bool). after_gaps (cond none [] (cell ∷ []))) (eq-eqb c.args.width 0
    (omega (arith, c.if-width-gt0.false)))))
    (nothing _ c.args.row.now.items)
