use Rattle.std.proofs.Common.{ℕ, Result, subst, sym}
use Rattle.pmb_message.specs.Send.{Sends}
use Rattle.pmb_message.specs.declared.message.SendFault.{SendFault}
use Rattle.pmb_message.proofs.Sends.{writes}
use Rattle.pmb_message.proofs.message.send_write.Goals as goal

pub returns : goal.returns
returns c =
    let room = c.args.room.now in
    let sent = c.write-outcome in
    subst
    (λ (r : Result ℕ SendFault). Sends c.args.message room room c.args.bus.now sent.new.bus sent.new.log r)
    (sym c.count_of.ensures)
    (writes c.args.message c.args.bus.now sent.new.bus c.args.tape.now sent.new.log c.requires.fresh room sent.result
    c.requires.ready c.requires.flags sent.ensures)
