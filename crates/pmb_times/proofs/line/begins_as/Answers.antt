use Rattle.std.proofs.Common.{arith, sym, ◌∙◌}
use Rattle.pmb_times.proofs.Lines.{all_fit, misfit, too_short}
use Rattle.pmb_times.proofs.line.begins_as.Goals as goal

pub returns-then-text-marks : goal.returns-then-text-marks
returns-then-text-marks c = sym (too_short c.args.marks.now c.args.text.now c.if-text-marks.true)

pub returns-then-not-fits_mark : goal.returns-then-not-fits_mark
returns-then-not-fits_mark c =
    sym (misfit c.args.marks.now c.args.text.now c.loop-i.i (omega arith) (omega arith)
    (sym c.fits_mark.ensures ∙ c.if-not-fits_mark.true))

pub returns : goal.returns
returns c =
    sym (all_fit c.args.marks.now c.args.text.now (omega arith) (λ k within. c.loop-i.invariant k (omega arith)))
