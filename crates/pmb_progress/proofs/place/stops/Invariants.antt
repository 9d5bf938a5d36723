use Rattle.std.proofs.Common.{◌≡◌, ◌+◌, ◌≤◌, length}
use Rattle.pmb_progress.specs.Stops.{place_behind, stops}
use Rattle.pmb_progress.proofs.place.stops.Given as goal

-- the packets so far, and those of what is left, are all
abbrev pub invariant-loop-left : goal.invariant-loop-left
invariant-loop-left l = record {
  count : l.count + stops l.at l.left ≡ stops l.fn.place l.fn.text;
  place : place_behind l.at l.left ≡ place_behind l.fn.place l.fn.text;
  few : l.count + length l.left ≤ length l.fn.text;
}

abbrev pub decreases-loop-left : goal.decreases-loop-left
decreases-loop-left l = length l.left
