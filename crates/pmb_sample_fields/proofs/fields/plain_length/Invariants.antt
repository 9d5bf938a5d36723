use Rattle.std.proofs.Common.{◌≡◌, ◌+◌, length}
use Rattle.pmb_sample_fields.specs.Fields.{mark_byte}
use Rattle.pmb_sample_fields.specs.machine.Left.{plain_length}
use Rattle.pmb_sample_fields.proofs.fields.plain_length.Given as goal

-- the bytes so far, and those of the field that are left
abbrev pub invariant-loop-left : goal.invariant-loop-left
invariant-loop-left l = record {
  so_far : l.length + plain_length (mark_byte l.mark) l.left ≡ plain_length (mark_byte l.mark) l.fn.text;
  fits : l.length + length l.left ≡ length l.fn.text;
}

abbrev pub decreases-loop-left : goal.decreases-loop-left
decreases-loop-left l = length l.left
