use Rattle.std.proofs.Common.{◌-◌, ◌≤◌, length}
use Rattle.pmb_parts.proofs.text.put_table_at.Given as goal

abbrev pub invariant-loop-at : goal.invariant-loop-at
invariant-loop-at l = record { within : l.at ≤ length l.table }

abbrev pub decreases-loop-at : goal.decreases-loop-at
decreases-loop-at l = length l.table - l.at
