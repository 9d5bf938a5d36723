use Rattle.std.proofs.Common.{ℕ, Result, subst, sym}
use Rattle.pmb_message.specs.Send.{Sends}
use Rattle.pmb_message.specs.declared.message.SendFault.{SendFault}
use Rattle.pmb_message.proofs.Sends.{reads_block}
use Rattle.pmb_message.proofs.message.send_block.Goals as goal

pub returns : goal.returns
returns c =
    let sent = c.read_length-outcome in
    subst
    (λ (r : Result ℕ SendFault). Sends c.args.message c.args.room.now sent.new.bytes c.args.bus.now sent.new.bus
    sent.new.log r)
    (sym c.block_count_of.ensures)
    (reads_block c.args.message c.args.bus.now sent.new.bus c.args.tape.now sent.new.log c.requires.fresh
    c.args.room.now sent.new.bytes sent.result c.requires.ready c.requires.flags sent.ensures.rest
    sent.ensures.untouched sent.ensures.signals)
