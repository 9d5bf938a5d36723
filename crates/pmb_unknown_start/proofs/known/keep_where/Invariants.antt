use Rattle.std.proofs.Common.{◌≡◌, ◌++◌, drop, map, take}
use Rattle.pmb_unknown_start.specs.Known.{kept_under}
use Rattle.pmb_unknown_start.proofs.known.keep_where.Given as goal

-- the pages so far
abbrev pub invariant-loop-known : goal.invariant-loop-known
invariant-loop-known l = l.modes ≡ map (kept_under l.mode) (take l.known-index l.fn.modes)
    ++ drop l.known-index l.fn.modes
