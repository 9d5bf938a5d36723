use Rattle.std.proofs.Common.{◌≡◌, ◌+◌, ◌<◌, true, false, length}
use Rattle.pmb_sample_fields.specs.machine.Left.{closing_of}
use Rattle.pmb_sample_fields.proofs.fields.closing_end.Given as goal

-- the end is not passed
abbrev pub invariant-loop-left : goal.invariant-loop-left
invariant-loop-left l = record {
  same : closing_of false 0 l.fn.text ≡ closing_of l.is_closed l.at l.left;
  count : l.at + length l.left ≡ length l.fn.text;
  some : l.is_closed ≡ true → 0 < l.at;
}

abbrev pub decreases-loop-left : goal.decreases-loop-left
decreases-loop-left l = length l.left
