use Rattle.std.proofs.Common.{refl}
use Rattle.pmb_times.proofs.TextLines.{begins_gap, keeps, tells, tells_none}
use Rattle.pmb_times.proofs.laws.the_last_time_line_counts.Goals as goal

pub returns : goal.returns
returns c = record { first = refl; kept = keeps; new_gap = begins_gap; told = tells; untold = tells_none }
