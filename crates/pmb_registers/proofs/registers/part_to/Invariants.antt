use Rattle.std.proofs.Common.{◌≡◌, map, drop}
use Rattle.pmb_transaction.specs.Transaction.{part_data}
use Rattle.pmb_registers.specs.Apply.{part_to}
use Rattle.pmb_registers.proofs.registers.part_to.Given as goal

abbrev pub invariant-loop-part : goal.invariant-loop-part
invariant-loop-part l =
    part_to l.address (map part_data (drop l.part-index l.parts)) ≡ part_to l.address (map part_data l.parts)
