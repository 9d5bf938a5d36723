use Rattle.std.proofs.Common.{◌∷◌, [], arith}
use Rattle.pmb_log_data.specs.Text.{at_left}
use Rattle.pmb_log_data.proofs.Texts.{at_most, nothing, then}
use Rattle.pmb_stats_table.specs.Rows.{phase_cells}
use Rattle.pmb_stats_table.proofs.Texts.{after_cells}
use Rattle.pmb_stats_table.proofs.spot.append_spot.Goals as goal

-- the cells, one after the other
pub returns : goal.returns
returns c =
    at_most 88 (omega (
      arith,
      c.requires.page,
      c.requires.phase,
      c.requires.command,
      c.requires.narrow.phase,
      c.requires.narrow.command,
    ))
    (then c.append_right.ensures
    (after_cells (phase_cells c.args.widths.phase c.args.phase.now)
    (at_left c.args.widths.command c.args.command.now ∷ []) c.append_phase.ensures
    (then c.append_left.ensures (nothing 0 _))))
