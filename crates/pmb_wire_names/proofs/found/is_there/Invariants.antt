use Rattle.std.proofs.Common.{◌≡◌, length}
use Rattle.pmb_wire_names.specs.Signals.{has_id}
use Rattle.pmb_wire_names.proofs.found.is_there.Given as goal

-- none so far has the ID
abbrev pub invariant-loop-left : goal.invariant-loop-left
invariant-loop-left l = has_id l.fn.id l.fn.found ≡ has_id l.fn.id l.left

abbrev pub decreases-loop-left : goal.decreases-loop-left
decreases-loop-left l = length l.left
