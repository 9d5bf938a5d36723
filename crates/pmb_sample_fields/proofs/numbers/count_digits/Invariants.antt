use Rattle.std.proofs.Common.{◌≡◌, ◌+◌, length}
use Rattle.pmb_sample_fields.specs.Numbers.{digits_at}
use Rattle.pmb_sample_fields.proofs.numbers.count_digits.Given as goal

-- the digits so far, and those that are left
abbrev pub invariant-loop-left : goal.invariant-loop-left
invariant-loop-left l = record {
  so_far : l.count + length (digits_at l.left) ≡ length (digits_at l.fn.text);
  fits : l.count + length l.left ≡ length l.fn.text;
}

abbrev pub decreases-loop-left : goal.decreases-loop-left
decreases-loop-left l = length l.left
