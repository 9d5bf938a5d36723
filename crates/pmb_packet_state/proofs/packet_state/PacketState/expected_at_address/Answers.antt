use Rattle.std.proofs.Common.{true, refl, sym, ap, ◌∙◌, ◌*◌, List}
use Rattle.pmb_command.specs.Parts.{DeviceParts, device_with}
use Rattle.pmb_packet_state.specs.declared.packet_state.PacketPlace.TheVariants as places
use Rattle.pmb_packet_state.proofs.Expected.{answers_may_follow, found_known}
use Rattle.pmb_packet_state.proofs.Steps.{at_place}
use Rattle.pmb_packet_state.proofs.WrittenLegs.{address_ends, address_law, address_refused_follows}
use Rattle.pmb_packet_state.proofs.packet_state.PacketState.expected_at_address.Goals as goal

pub returns : goal.returns
returns c profile events at stands =
    let bus = stands.bus in
    let here = at_place profile c.args.self.now events (places.Address c.args.addr) at stands in
    let taken = address_law profile bus c.args.self.now c.args.addr events here
    (c.addresses_taken_are_known.ensures profile) in
    let refused = address_refused_follows profile bus c.args.self.now c.args.addr events here
    (c.addresses_may_be_refused.ensures profile) in
    let found = found_known c.device.result (device_with c.args.addr profile)
    (c.device.ensures.device ∙ ap (λ (p : List DeviceParts). device_with c.args.addr p) stands.known) in
    answers_may_follow c.events_take_turns.ensures profile events (2 * c.args.addr)
    (address_ends profile c.args.self.now c.args.addr events here) c.answers.result c.is_some.result true
    (record {
      known = c.answers.ensures.known;
      ack_is = c.answers.ensures.ack;
      nack_is =
          c.answers.ensures.nack;
      no_start = c.answers.ensures.start;
      no_byte = c.answers.ensures.byte;
      no_stop =
          c.answers.ensures.stop;
    })
    (λ yes. taken.1 (found.0 (sym c.is_some.ensures ∙ yes)), λ follows. c.is_some.ensures ∙ found.1 (taken.0 follows))
    (λ _. refused, λ _. refl)
