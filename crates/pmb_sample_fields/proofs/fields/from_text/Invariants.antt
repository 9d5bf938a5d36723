use Rattle.std.proofs.Common.{◌≡◌, length}
use Rattle.pmb_sample_fields.specs.Fields.{behind_blanks}
use Rattle.pmb_sample_fields.proofs.fields.from_text.Given as goal

-- the bytes so far were blanks
abbrev pub invariant-loop-left : goal.invariant-loop-left
invariant-loop-left l = behind_blanks l.fn.text ≡ behind_blanks l.left

abbrev pub decreases-loop-left : goal.decreases-loop-left
decreases-loop-left l = length l.left
