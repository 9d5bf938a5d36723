use Rattle.std.proofs.Common.{◌≡◌, ◌<◌, ℕ, true, get_or}
use Rattle.pmb_times.specs.Line.{fits_mark}
use Rattle.pmb_times.proofs.line.begins_as.Given as goal

-- each mark so far fits
abbrev pub invariant-loop-i : goal.invariant-loop-i
invariant-loop-i l = (k : ℕ) → k < l.i → fits_mark (get_or l.marks k 0) (get_or l.text k 0) ≡ true
