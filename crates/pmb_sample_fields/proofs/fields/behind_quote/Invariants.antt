use Rattle.std.proofs.Common.{◌≡◌, length}
use Rattle.pmb_sample_fields.specs.Fields.{Behind, fields_from, mark_byte}
use Rattle.pmb_sample_fields.proofs.fields.behind_quote.Given as goal

-- the bytes so far were blanks
abbrev pub invariant-loop-left : goal.invariant-loop-left
invariant-loop-left l = fields_from (mark_byte l.mark) Behind l.fn.text ≡ fields_from (mark_byte l.mark) Behind l.left

abbrev pub decreases-loop-left : goal.decreases-loop-left
decreases-loop-left l = length l.left
