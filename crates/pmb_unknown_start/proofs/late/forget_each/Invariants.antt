use Rattle.std.proofs.Common.{◌≡◌, ◌++◌, drop, map, take}
use Rattle.pmb_unknown_start.specs.machine.Keeping.{kept_dropped}
use Rattle.pmb_unknown_start.proofs.late.forget_each.Given as goal

-- the addresses so far
abbrev pub invariant-loop-one : goal.invariant-loop-one
invariant-loop-one l = l.kept ≡ map (kept_dropped l.start) (take l.one-index l.fn.kept)
    ++ drop l.one-index l.fn.kept
