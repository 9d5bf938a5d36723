use Rattle.std.proofs.Common.{◌≡◌, map, drop}
use Rattle.pmb_transaction.specs.Transaction.{part_data}
use Rattle.pmb_registers.specs.Apply.{after_others}
use Rattle.pmb_registers.proofs.registers.Registers.apply_others.Given as goal

abbrev pub invariant-loop-address : goal.invariant-loop-address
invariant-loop-address l = record {
  same_device : l.self.device ≡ l.initial.self.device;
  left : after_others l.initial.self.device (drop l.address-index l.initial.self.device.also) (map part_data l.parts)
      l.self.state
      ≡ after_others l.initial.self.device l.initial.self.device.also (map part_data l.parts) l.initial.self.state;
}
