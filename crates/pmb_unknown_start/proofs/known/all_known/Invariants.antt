use Rattle.std.proofs.Common.{◌≡◌, Some, map, take}
use Rattle.pmb_unknown_start.proofs.known.all_known.Given as goal

-- the pages so far
abbrev pub invariant-loop-mode : goal.invariant-loop-mode
invariant-loop-mode l = l.modes.items ≡ map Some (take l.mode-index l.known)
