use Rattle.std.proofs.Common.{◌≡◌, map, drop}
use Rattle.pmb_transaction.specs.Transaction.{part_data}
use Rattle.pmb_registers.specs.Apply.{after_parts}
use Rattle.pmb_registers.proofs.registers.Registers.apply_parts.Given as goal

abbrev pub invariant-loop-part : goal.invariant-loop-part
invariant-loop-part l = record {
  same_device : l.self.device ≡ l.initial.self.device;
  left : after_parts l.initial.self.device (map part_data (drop l.part-index l.parts)) l.self.state
      ≡ after_parts l.initial.self.device (map part_data l.parts) l.initial.self.state;
}
