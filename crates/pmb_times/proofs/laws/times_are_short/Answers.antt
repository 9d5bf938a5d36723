use Rattle.pmb_times.proofs.Gaps.{behind_is, gap_is, last_is}
use Rattle.pmb_times.proofs.Lines.{line_is}
use Rattle.pmb_times.proofs.laws.times_are_short.Goals as goal

pub returns : goal.returns
returns c = record { line = line_is; at = gap_is; last = last_is; next = behind_is }
