use Rattle.std.proofs.Common.{ℕ, List, [], ◌∷◌, ◌++◌, codes, ap, ◌∙◌}
use Rattle.pmb_log_data.specs.Text.{at_right}
use Rattle.pmb_log_data.proofs.Texts.{called, nothing, then}
use Rattle.pmb_stats_table.specs.Row.{without_last_blanks}
use Rattle.pmb_stats_table.specs.Rows.{spot_cells}
use Rattle.pmb_stats_table.proofs.Texts.{after_cells, from_nothing}
use Rattle.pmb_stats_table.proofs.numbers.append_number_line.Goals as goal

-- the cells, one after the other
pub returns : goal.returns
returns g c =
    let texts = c.args.texts in
    let spot = spot_cells c.args.widths texts.page.now texts.phase.now texts.command.now in
    let others = at_right 8 texts.count.now ∷ at_right 7 texts.assumed.now ∷ at_right 10 texts.least.now
    ∷ at_right 10 texts.mean.now ∷ at_right 10 texts.greatest.now ∷ at_right 10 texts.last.now ∷ texts.unit.now ∷ [] in
    let cells = after_cells spot others c.append_spot.ensures (then c.append_right.ensures
    (then c.append_right-2.ensures (then c.append_right-3.ensures (then c.append_right-4.ensures
    (then c.append_right-5.ensures (then c.append_right-6.ensures (then c.append_last.ensures (nothing 0 _))))))))
    in
    called (ap (λ (row : List ℕ). without_last_blanks row ++ codes "\n")
    (c.as_slice.ensures.value ∙ from_nothing c.new-row.ensures cells)) c.append_row.ensures
