use Rattle.std.proofs.Common.{◌≡◌, true, subst, sym, ap, ◌∙◌}
use Rattle.pmb_transaction.specs.Transaction.{transaction_data}
use Rattle.pmb_transaction.specs.Packet.{Packet}
use Rattle.pmb_writer.specs.machine.Legs.{course_events, legs_events, packet_events}
use Rattle.pmb_writer.proofs.Written.{packet_written}
use Rattle.pmb_writer.proofs.events.events_of.Goals as goal

pub returns : goal.returns
returns c =
    let is : course_events c.new.result ≡ packet_events c.args.profile.now (transaction_data c.args.transaction.now) =
    c.new.ensures ∙ ap (legs_events true 0) c.legs_of.ensures.legs in
    subst (Packet c.args.profile.now (transaction_data c.args.transaction.now)) (sym is)
    (packet_written (record { nothing = c.worked_pecs.ensures.nothing; goes_on = c.pec_goes_on.ensures })
    c.args.profile.now c.accepted_bus.ensures.devices (transaction_data c.args.transaction.now) c.requires)
