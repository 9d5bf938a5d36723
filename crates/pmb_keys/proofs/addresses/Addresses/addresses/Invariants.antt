use Rattle.std.proofs.Common.{◌≡◌}
use Rattle.pmb_keys.specs.machine.Addresses.{marked_below}
use Rattle.pmb_keys.proofs.addresses.Addresses.addresses.Given as goal

-- the addresses so far
abbrev pub invariant-loop-address : goal.invariant-loop-address
invariant-loop-address l = l.addresses.items ≡ marked_below l.address l.self-inside.flags
