use Rattle.std.proofs.Common.{◌≡◌, [], length}
use Rattle.pmb_wire_names.specs.Kept.{kept_from}
use Rattle.pmb_wire_names.proofs.names.kept_bytes.Given as goal

-- the bytes so far were kept
abbrev pub invariant-loop-left : goal.invariant-loop-left
invariant-loop-left l = kept_from [] l.fn.name ≡ kept_from l.wanted.items l.left

abbrev pub decreases-loop-left : goal.decreases-loop-left
decreases-loop-left l = length l.left
