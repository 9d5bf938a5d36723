use Rattle.std.proofs.Common.{ap, refl, ◌∙◌}
use Rattle.pmb_registers.specs.State.{InState}
use Rattle.pmb_registers.specs.Apply.{after_write}
use Rattle.pmb_device.specs.declared.device_packet.Effect.TheVariants.{Write}
use Rattle.pmb_device.proofs.Stopping.{acted}
use Rattle.pmb_device.proofs.device.Device.act.Goals as goal

-- its registers took the write
pub returns-in-Write : goal.returns-in-Write
returns-in-Write c = λ standing at.
    acted c.args.self.now _ standing (Write c.in-Write.code c.in-Write.bytes) c.outcome.result c.in-Write.is at
    (c.write.ensures
    ∙ ap (λ (r : InState). record {
      device = r.device;
      state = after_write r.device c.in-Write.code c.in-Write.bytes.now r.state;
    }) at.registers)
    refl refl
    (c.outcome.ensures.ends standing.device standing.state standing.legs at.exchange)
    (c.outcome.ensures.tells standing.device standing.state standing.legs at.exchange)
