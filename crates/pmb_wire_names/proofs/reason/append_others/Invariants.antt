use Rattle.std.proofs.Common.{◌≡◌, ◌≤◌, ◌+◌, ◌*◌, ◌++◌, length}
use Rattle.pmb_wire_names.specs.Choosing.{listed_others}
use Rattle.pmb_wire_names.proofs.reason.append_others.Given as goal

-- the text so far, and what the others add to it
abbrev pub invariant-loop-left : goal.invariant-loop-left
invariant-loop-left l = record {
  text : l.fn.text.items ++ listed_others l.fn.others 15 ≡ l.text.items ++ listed_others l.left l.room;
  room : l.room ≤ 15;
  short : length l.text.items + 257 * l.room ≤ 4255;
}

abbrev pub decreases-loop-left : goal.decreases-loop-left
decreases-loop-left l = length l.left
