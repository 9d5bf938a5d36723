use Rattle.std.proofs.Common.{◌≡◌, ◌++◌, List, ℕ, true, map, ap, sym, ◌∙◌}
use Rattle.pmb_bus.specs.Event.{canonical_text}
use Rattle.pmb_transaction.specs.declared.transaction.Transaction.{Transaction}
use Rattle.pmb_transaction.specs.Transaction.{Read, Write, part_data, transaction_data}
use Rattle.pmb_writer.specs.machine.Legs.{LegData, legs_data, legs_events, legs_of, packet_events}
use Rattle.pmb_writer.proofs.Written.{packet_written}
use Rattle.pmb_writer.proofs.text.append_packet.Goals as goal

pub returns-in-Write : goal.returns-in-Write
returns-in-Write g c =
    let profile = c.args.profile.now in
    let t = transaction_data c.args.transaction.now in
    let legs : legs_data c.write_legs.result ≡ legs_of profile t =
    c.write_legs.ensures.legs
    ∙ (ap (λ parts. legs_of profile (Write (map part_data parts))) c.as_slice.ensures.value
    ∙ ap (λ (made : Transaction). legs_of profile (transaction_data made)) (sym c.in-Write.is)) in record {
      events = packet_events profile t;
      packet = packet_written (record { nothing = c.worked_pecs.ensures.nothing; goes_on = c.pec_goes_on.ensures })
          profile c.accepted_bus.ensures.devices t c.requires.packet;
      appended = c.append.ensures ∙ ap (λ (l : List LegData). c.args.text.now.items
          ++ canonical_text (legs_events true 0 l)) legs;
    }

pub returns-in-Read : goal.returns-in-Read
returns-in-Read g c =
    let profile = c.args.profile.now in
    let t = transaction_data c.args.transaction.now in
    let legs : legs_data c.read_legs.result ≡ legs_of profile t =
    c.read_legs.ensures.legs
    ∙ (ap (λ (reply : List ℕ). legs_of profile
    (Read (record { addr = c.in-Read.addr; code = c.in-Read.code; reply = reply; pec = c.in-Read.pec })))
    c.as_slice-in-Read.ensures.value
    ∙ ap (λ (made : Transaction). legs_of profile (transaction_data made)) (sym c.in-Read.is)) in record {
      events = packet_events profile t;
      packet = packet_written (record { nothing = c.worked_pecs.ensures.nothing; goes_on = c.pec_goes_on.ensures })
          profile c.accepted_bus.ensures.devices t c.requires.packet;
      appended = c.append-in-Read.ensures ∙ ap
          (λ (l : List LegData). c.args.text.now.items ++ canonical_text (legs_events true 0 l)) legs;
    }

pub returns-in_default : goal.returns-in_default
returns-in_default g c =
    let t = transaction_data c.args.transaction.now in record {
      events = packet_events c.args.profile.now t;
      packet = packet_written (record { nothing = c.worked_pecs.ensures.nothing; goes_on = c.pec_goes_on.ensures })
          c.args.profile.now c.accepted_bus.ensures.devices t c.requires.packet;
      appended = c.append-in_default.ensures ∙ ap
          (λ (legs : List LegData). c.args.text.now.items ++ canonical_text (legs_events true 0 legs))
          c.legs_of.ensures.legs;
    }
