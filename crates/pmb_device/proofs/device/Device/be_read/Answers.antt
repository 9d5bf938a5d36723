use Rattle.std.proofs.Common.{◌≡◌, Ok, Err, sym, ap, ◌∙◌}
use Rattle.pmb_registers.specs.State.{InState}
use Rattle.pmb_registers.specs.Answer.{answer}
use Rattle.pmb_device.proofs.device.Device.be_read.Goals as goal

pub returns-in-Ok : goal.returns-in-Ok
returns-in-Ok c = λ device state legs byte body regs asked.
    let body_is = c.body.ensures device state legs byte body asked in
    let said : answer device state body ≡ Ok _ = ap (λ (s : InState). answer s.device s.state body) (sym regs)
    ∙ ap (answer c.args.self.now.registers.device c.args.self.now.registers.state) (sym body_is)
    ∙ sym c.in-Ok.ensures.answer in
    let leads = c.reply.ensures device state legs byte body asked (said ∙ ap Ok (sym c.as_slice.ensures)) in
    record { answers = leads.0; leads = record { registers = regs; exchange = leads.1 } }

pub returns-in-Err : goal.returns-in-Err
returns-in-Err c = λ device state legs byte body regs asked.
    let body_is = c.body.ensures device state legs byte body asked in
    let said : answer device state body ≡ Err _ = ap (λ (s : InState). answer s.device s.state body) (sym regs)
    ∙ ap (answer c.args.self.now.registers.device c.args.self.now.registers.state) (sym body_is)
    ∙ sym c.in-Err.ensures.answer in
    let leads = c.refuse.ensures device state legs byte body asked said in
    record { answers = leads.0; leads = record { registers = regs; exchange = leads.1 } }
