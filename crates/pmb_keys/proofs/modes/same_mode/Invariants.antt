use Rattle.std.proofs.Common.{◌≡◌, replicate}
use Rattle.pmb_keys.proofs.modes.same_mode.Given as goal

-- the pages so far
abbrev pub invariant-loop : goal.invariant-loop
invariant-loop l = l.modes.items ≡ replicate l.counter l.mode
