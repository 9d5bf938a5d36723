use Rattle.std.proofs.Common.{◌≡◌, ℕ, ◌++◌, Result, arith, drop, length, length-take, subst, sym, take}
use Rattle.pmb_message.specs.Send.{Sends}
use Rattle.pmb_message.specs.declared.message.SendFault.{SendFault}
use Rattle.pmb_message.proofs.Sends.{reads_into}
use Rattle.pmb_message.proofs.message.send_read.Goals as goal

pub returns : goal.returns
returns c =
    let sent = c.read-outcome in
    let n = c.args.message.length in
    let room = c.args.room.now in
    let long : length sent.new.bytes ≡ n =
    omega (arith, sent.auto.bytes, length-take n room, c.requires.ready.fits) in
    subst
    (λ (r : Result ℕ SendFault). Sends c.args.message room (sent.new.bytes ++ drop n room) c.args.bus.now sent.new.bus
    sent.new.log r)
    (sym c.count_of.ensures)
    (reads_into c.args.message c.args.bus.now sent.new.bus c.args.tape.now sent.new.log c.requires.fresh room
    sent.new.bytes sent.result long sent.ensures.untouched c.requires.ready c.requires.flags sent.ensures.signals)
