use Rattle.std.proofs.Common.{◌≡◌, ◌≤◌, ◌+◌, length}
use Rattle.pmb_sample_fields.specs.Fields.{without_last_blanks}
use Rattle.pmb_sample_fields.specs.machine.Left.{used_with}
use Rattle.pmb_sample_fields.proofs.fields.used_length.Given as goal

-- the bytes so far, and those that are left
abbrev pub invariant-loop-left : goal.invariant-loop-left
invariant-loop-left l = record {
  same : length (without_last_blanks l.fn.text) ≡ used_with l.used l.at (length (without_last_blanks l.left));
  count : l.at + length l.left ≡ length l.fn.text;
  fits : l.used ≤ l.at;
}

abbrev pub decreases-loop-left : goal.decreases-loop-left
decreases-loop-left l = length l.left
