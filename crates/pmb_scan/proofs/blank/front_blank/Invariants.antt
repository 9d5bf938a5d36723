use Rattle.std.proofs.Common.{◌≤◌, false, take}
use Rattle.pmb_scan.proofs.Blanks.{IsBlank}
use Rattle.pmb_scan.proofs.blank.front_blank.Given as goal

-- no word begins in the bytes so far
abbrev pub invariant-loop-i : goal.invariant-loop-i
invariant-loop-i l = record {
  so_far : IsBlank (take l.i l.text) l.in_comment;
  counted : IsBlank (take l.blank l.text) false;
  within : l.blank ≤ l.i;
}
