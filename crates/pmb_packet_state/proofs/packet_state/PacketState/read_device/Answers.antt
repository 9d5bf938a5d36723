use Rattle.std.proofs.Common.{◌≡◌, ◌+◌, ◌*◌, ℕ, ap, sym, ◌∙◌, refl}
use Rattle.pmb_bus.specs.declared.event.Event.TheVariants.{Byte}
use Rattle.pmb_packet_state.specs.declared.packet_state.PacketPlace.TheVariants as places
use Rattle.pmb_packet_state.specs.declared.packet_state.Answerer.TheVariants as sources
use Rattle.pmb_transaction.specs.Following.{reply_leg}
use Rattle.pmb_packet_state.proofs.Steps.{at_place, moves_to}
use Rattle.pmb_packet_state.proofs.WrittenLegs.{AskedLeg, alone_in_packet, first_leg_asked, is_asked_leg, kept_start}
use Rattle.pmb_packet_state.proofs.WrittenLegs.{reads_device, restart_law}
use Rattle.pmb_packet_state.proofs.packet_state.PacketState.read_device.Goals as goal

pub returns-then-address-addr : goal.returns-then-address-addr
returns-then-address-addr c = λ profile events at stands.
    let bus = stands.bus in
    let here = at_place profile c.args.self.now events places.Restart at stands in
    let leg = kept_start profile c.args.self.now c.in-Some.leg events c.in-Some.is here in
    let law =
    restart_law profile bus c.args.self.now.kept c.in-Some.leg leg.0 leg.1 leg.2 events (2 * c.args.addr + 1)
    (λ parts legs addr device bytes. c.later_addresses.ensures profile parts legs addr device bytes
    (2 * c.args.addr + 1)) leg.3 in (
      λ turn follows.
          let asked : AskedLeg c.in-Some.leg.device leg.0 c.in-Some.leg.device.address c.in-Some.leg.bytes c.args.addr =
          is_asked_leg _ _ _ _ _ (law.0 follows) in
          c.if-address-addr.true (c.address.ensures ∙ sym asked.at),
      refl,
    )

pub returns-then-not-is_asking : goal.returns-then-not-is_asking
returns-then-not-is_asking c = λ profile events at stands.
    let bus = stands.bus in
    let here = at_place profile c.args.self.now events places.Restart at stands in
    let leg = kept_start profile c.args.self.now c.in-Some.leg events c.in-Some.is here in
    let law =
    restart_law profile bus c.args.self.now.kept c.in-Some.leg leg.0 leg.1 leg.2 events (2 * c.args.addr + 1)
    (λ parts legs addr device bytes. c.later_addresses.ensures profile parts legs addr device bytes
    (2 * c.args.addr + 1)) leg.3 in (
      λ turn follows.
          let asked : AskedLeg c.in-Some.leg.device leg.0 c.in-Some.leg.device.address c.in-Some.leg.bytes c.args.addr =
          is_asked_leg _ _ _ _ _ (law.0 follows) in
          cc (
            c.is_asking.ensures.1 (first_leg_asked leg.0 c.in-Some.leg leg.2.place asked.alone, asked.request),
            c.if-not-is_asking.true,
          ),
      refl,
    )

pub returns : goal.returns
returns c = λ profile events at stands.
    let bus = stands.bus in
    let here = at_place profile c.args.self.now events places.Restart at stands in
    let leg = kept_start profile c.args.self.now c.in-Some.leg events c.in-Some.is here in
    let law =
    restart_law profile bus c.args.self.now.kept c.in-Some.leg leg.0 leg.1 leg.2 events (2 * c.args.addr + 1)
    (λ parts legs addr device bytes. c.later_addresses.ensures profile parts legs addr device bytes
    (2 * c.args.addr + 1)) leg.3 in
    let asking = c.is_asking.ensures.0 c.if-not-is_asking.false in
    let alone = alone_in_packet leg.0 c.in-Some.leg leg.2.place asking.0 in
    let same : c.args.addr ≡ c.in-Some.leg.device.address = sym c.if-address-addr.false ∙ c.address.ensures in
    moves_to profile c.args.self.now (places.ReadAddress sources.Device) events
    (Byte (2 * c.args.addr + 1)) stands.known stands.bus
    (law.1 (reply_leg alone asking.1 (ap (λ (a : ℕ). 2 * a + 1) same))) (λ e. cc e)
    (reads_device profile c.args.self.now (places.ReadAddress sources.Device) c.in-Some.leg leg.0 leg.1 events
    c.args.addr c.in-Some.is leg.2 leg.3 alone asking same)
