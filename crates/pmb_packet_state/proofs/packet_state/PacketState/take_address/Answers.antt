use Rattle.std.proofs.Common.{◌≡◌, Some, sym, ◌∙◌, refl}
use Rattle.pmb_bus.specs.declared.event.Event.TheVariants.{Ack}
use Rattle.pmb_packet_state.specs.declared.packet_state.PacketPlace.TheVariants as places
use Rattle.pmb_command.specs.Parts.{device_with}
use Rattle.pmb_packet_state.proofs.Devices.{found_device, has_address, no_device}
use Rattle.pmb_packet_state.proofs.Steps.{at_place, moves_on}
use Rattle.pmb_packet_state.proofs.WrittenLegs.{address_law, leg_begins}
use Rattle.pmb_packet_state.proofs.packet_state.PacketState.take_address.Goals as goal

pub returns-in_default : goal.returns-in_default
returns-in_default c = λ profile events at stands.
    let bus = stands.bus in
    let here = at_place profile c.args.self.now events (places.Address c.args.addr) at stands in
    let law = address_law profile bus c.args.self.now c.args.addr events here
    (c.addresses_taken_are_known.ensures profile) in (
      λ turn follows.
          let device = law.0 follows in
          no_device profile c.args.self.now.profile.now c.args.addr c.device.result device.0 stands.known
          c.device.ensures.device c.in_default.is device.1,
      refl,
    )

pub returns : goal.returns
returns c = λ profile events at stands.
    let bus = stands.bus in
    let here = at_place profile c.args.self.now events (places.Address c.args.addr) at stands in
    let law = address_law profile bus c.args.self.now c.args.addr events here
    (c.addresses_taken_are_known.ensures profile) in
    let known : device_with c.args.addr profile ≡ Some c.in-Some.device.now =
    found_device profile c.args.self.now.profile.now c.args.addr c.device.result c.in-Some.device stands.known
    c.device.ensures.device c.in-Some.is in
    moves_on profile events Ack (record c.start_leg.new.self { place = places.Leg })
    (c.start_leg.ensures.same_profile ∙ stands.known) stands.bus (law.1 (c.in-Some.device.now, known)) (λ e. cc e)
    (leg_begins profile c.args.self.now (record c.start_leg.new.self { place = places.Leg }) c.args.addr
    c.in-Some.device.now events here known
    (sym (has_address profile c.args.addr c.in-Some.device.now known))
    (record {
      leg = c.start_leg.ensures.leg;
      same_kept = c.start_leg.ensures.same_kept;
      same_profile =
          c.start_leg.ensures.same_profile;
    }))
