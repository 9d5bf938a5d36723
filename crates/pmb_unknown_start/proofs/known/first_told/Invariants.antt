use Rattle.std.proofs.Common.{◌≡◌, drop}
use Rattle.pmb_unknown_start.specs.Known.{first_told}
use Rattle.pmb_unknown_start.proofs.known.first_told.Given as goal

-- none of the pages so far is known
abbrev pub invariant-loop-mode : goal.invariant-loop-mode
invariant-loop-mode l = first_told (drop l.mode-index l.modes) ≡ first_told l.modes
