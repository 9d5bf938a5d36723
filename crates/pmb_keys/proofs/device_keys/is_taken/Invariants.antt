use Rattle.std.proofs.Common.{◌≡◌, drop, nat_eq}
use Rattle.std.specs.List.{list_any}
use Rattle.pmb_keys.proofs.device_keys.is_taken.Given as goal

-- the addresses so far are others
abbrev pub invariant-loop-other : goal.invariant-loop-other
invariant-loop-other l = list_any (nat_eq l.fn.address) (drop l.other-index l.taken)
    ≡ list_any (nat_eq l.fn.address) l.taken
