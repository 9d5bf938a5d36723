use Rattle.std.proofs.Common.{◌≤◌, length}
use Rattle.pmb_parts.proofs.line.comment_of.Given as goal

abbrev pub invariant-loop-i : goal.invariant-loop-i
invariant-loop-i l = record { within : l.start ≤ length l.value }
