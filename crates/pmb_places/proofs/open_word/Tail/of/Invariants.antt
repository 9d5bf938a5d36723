use Rattle.std.proofs.Common.{◌≡◌, ◌≤◌, ℕ, List, take}
use Rattle.pmb_bus.specs.Text.{ends_in_comment}
use Rattle.pmb_places.specs.machine.OpenWord.{IsTail}
use Rattle.pmb_places.proofs.open_word.Tail.of.Given as goal

-- the tail of the bytes so far
abbrev pub invariant-loop-i : goal.invariant-loop-i
invariant-loop-i l = record {
  tail : (text : List ℕ) → l.before ≡ ends_in_comment text → IsTail text (take l.i l.bytes) l.in_comment l.from;
  within : l.from ≤ l.i;
}
