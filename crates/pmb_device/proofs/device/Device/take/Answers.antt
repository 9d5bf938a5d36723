use Rattle.std.proofs.Common.{ap, ◌∙◌}
use Rattle.pmb_registers.specs.State.{InState}
use Rattle.pmb_registers.specs.Apply.{after_other}
use Rattle.pmb_device.proofs.Stopping.{stands_outside}
use Rattle.pmb_device.proofs.device.Device.take.Goals as goal

pub returns-clause-stands : goal.returns-clause-stands
returns-clause-stands c = λ device state at. record {
  registers = c.write_other.ensures ∙ ap (λ (r : InState). record {
    device = r.device;
    state = after_other r.device c.args.code c.args.bytes.now r.state;
  }) at.registers;
  exchange = stands_outside c.args.self.now.exchange device state _ at.exchange;
}

pub returns-clause-remembers : goal.returns-clause-remembers
returns-clause-remembers c = λ device legs known. known
