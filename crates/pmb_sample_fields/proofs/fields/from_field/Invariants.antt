use Rattle.std.proofs.Common.{◌≡◌, length}
use Rattle.pmb_sample_fields.specs.Fields.{at_field, mark_byte}
use Rattle.pmb_sample_fields.proofs.fields.from_field.Given as goal

-- the bytes so far were blanks
abbrev pub invariant-loop-left : goal.invariant-loop-left
invariant-loop-left l = at_field (mark_byte l.mark) l.fn.text ≡ at_field (mark_byte l.mark) l.left

abbrev pub decreases-loop-left : goal.decreases-loop-left
decreases-loop-left l = length l.left
