use Rattle.std.proofs.Common.{◌≡◌, length}
use Rattle.pmb_sample_fields.specs.Row.{has_quote}
use Rattle.pmb_sample_fields.proofs.fields.contains_quote.Given as goal

-- the bytes so far were none
abbrev pub invariant-loop-left : goal.invariant-loop-left
invariant-loop-left l = has_quote l.fn.text ≡ has_quote l.left

abbrev pub decreases-loop-left : goal.decreases-loop-left
decreases-loop-left l = length l.left
