-- The columns of lines are narrow.
use Rattle.std.proofs.Common.{arith, subst}
use Rattle.pmb_log_lines.specs.Layout.{IsNarrow}
use Rattle.pmb_fact_stream.specs.Telling.{Fits}
use Rattle.pmb_fact_stream.specs.declared.telling.Telling.TheVariants.{Lines}
use Rattle.pmb_fact_stream.proofs.telling.Telling.append_line.Goals as goal

pub append_log_line-requires : goal.append_log_line-requires
append_log_line-requires c =
    let fits : Fits (Lines c.in-Lines.layout) = subst Fits c.in-Lines.is c.requires.fits in
    let narrow : IsNarrow c.in-Lines.layout = record { name = fits.0; page = fits.1.0; command = fits.1.1 } in
    (omega arith, (narrow, (c.requires.few, omega (arith, c.requires.room))))
