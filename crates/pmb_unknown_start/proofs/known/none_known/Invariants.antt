use Rattle.std.proofs.Common.{◌≡◌, None, replicate}
use Rattle.pmb_unknown_start.proofs.known.none_known.Given as goal

-- the pages so far
abbrev pub invariant-loop : goal.invariant-loop
invariant-loop l = l.modes.items ≡ replicate l.counter None
