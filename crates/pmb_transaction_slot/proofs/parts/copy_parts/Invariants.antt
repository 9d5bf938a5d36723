use Rattle.std.proofs.Common.{◌≡◌, ◌≤◌, length, map, take}
use Rattle.pmb_transaction.specs.Transaction.{part_data}
use Rattle.pmb_transaction_slot.proofs.parts.copy_parts.Given as goal

abbrev pub invariant-loop-i : goal.invariant-loop-i
invariant-loop-i g l = (map part_data (take l.i l.into.items) ≡ map part_data (take l.i l.parts))
    × (l.i ≤ length l.into.items)
