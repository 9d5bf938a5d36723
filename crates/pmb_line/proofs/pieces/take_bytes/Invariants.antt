use Rattle.std.proofs.Common.{length, ◌≡◌, ◌≤◌, ◌==◌}
use Rattle.pmb_line.specs.machine.Left.{left, end}
use Rattle.pmb_line.specs.machine.Pieces.{AddsBytes}
use Rattle.pmb_line.proofs.pieces.take_bytes.Given as goal

-- what was taken so far
abbrev pub invariant-loop-word : goal.invariant-loop-word
invariant-loop-word g l = record {
  adds : AddsBytes (left l.fn.words) l.fn.bytes.items l.bytes.items (left l.words);
  ahead : left l.ahead ≡ left l.words;
  ahead_end : end l.ahead ≡ end l.fn.words;
  ends : end l.words ≡ end l.fn.words;
  few : length l.bytes.items ≤ g.row.N;
  full : l.is_full ≡ (length l.bytes.items == g.row.N);
  shrinks : length (left l.words) ≤ length (left l.fn.words);
}

abbrev pub decreases-loop-word : goal.decreases-loop-word
decreases-loop-word g l = length (left l.ahead)
