use Rattle.pmb_registers.specs.State.{first_state}
use Rattle.pmb_device.proofs.device.Device.new.Goals as goal

pub returns : goal.returns
returns c = record { registers = c.in_ok-registers.ensures; exchange = c.new-2.ensures (first_state c.args.device.now) }
