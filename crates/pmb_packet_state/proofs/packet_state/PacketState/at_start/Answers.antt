use Rattle.std.proofs.Common.{◌≡◌, true, ◌<◌, ◌/◌, ℕ, List, [], ◌∷◌, ◌++◌, ap, subst, arith, refl, sym, ◌∙◌}
use Rattle.pmb_bus.specs.Address.{read_address, alert_address}
use Rattle.pmb_bus.specs.declared.event.Event.{Event}
use Rattle.pmb_bus.specs.declared.event.Event.TheVariants.{Start, Byte}
use Rattle.pmb_transaction.specs.Capture.{MayFollow}
use Rattle.pmb_transaction.specs.Following.{alert_first}
use Rattle.pmb_transaction.specs.Turns.{is_byte}
use Rattle.pmb_packet_state.specs.declared.packet_state.PacketPlace.{PacketPlace}
use Rattle.pmb_packet_state.specs.declared.packet_state.PacketPlace.TheVariants as places
use Rattle.pmb_packet_state.specs.machine.PacketState.{has_turn}
use Rattle.pmb_packet_state.specs.declared.packet_state.Answerer.TheVariants as sources
use Rattle.pmb_packet_state.proofs.Steps.{at_place, byte_is_no_stop, moves_to, other_than_byte}
use Rattle.pmb_packet_state.proofs.WrittenLegs.{even_address, first_address, first_follows, no_first_address}
use Rattle.pmb_packet_state.proofs.packet_state.PacketState.at_start.Goals as goal

pub returns-in_default : goal.returns-in_default
returns-in_default c = λ profile events at stands. (
  λ turn follows.
      let here : is_byte c.args.event ≡ true = subst (λ (p : PacketPlace). has_turn p c.args.event ≡ true) at turn in
      cc (here, other_than_byte c.args.event c.in_default.not-Byte),
  refl,
)

pub returns-then-byte-eq0 : goal.returns-then-byte-eq0
returns-then-byte-eq0 c = λ profile events at stands.
    let bus = stands.bus in
    let here = at_place profile c.args.self.now events places.Start at stands in
    let small : c.in-Byte.byte < 256 = omega arith in
    moves_to profile c.args.self.now (places.Address (c.in-Byte.byte / 2)) events c.args.event stands.known stands.bus
    (
    first_follows profile c.in-Byte.byte events c.args.event (c.first_addresses.ensures profile c.in-Byte.byte bus).1
    here.0 c.in-Byte.is
    (even_address c.in-Byte.byte small c.if-byte-eq0.true)
    )
    (byte_is_no_stop c.args.event c.in-Byte.byte c.in-Byte.is)
    (first_address profile (record c.args.self.now { place = places.Address (c.in-Byte.byte / 2) }) c.in-Byte.byte
    events c.args.event small c.if-byte-eq0.true here.1 here.0 c.in-Byte.is)

pub returns-then-byte-read_address : goal.returns-then-byte-read_address
returns-then-byte-read_address c = λ profile events at stands.
    let bus = stands.bus in
    let alert : c.in-Byte.byte ≡ read_address alert_address = c.if-byte-read_address.true
    ∙ c.read_address.ensures.seven_bits (omega arith) in
    let here = at_place profile c.args.self.now events places.Start at stands in
    moves_to profile c.args.self.now (places.ReadAddress sources.Alert) events c.args.event stands.known stands.bus
    (
    first_follows profile c.in-Byte.byte events c.args.event (c.first_addresses.ensures profile c.in-Byte.byte bus).1
    here.0 c.in-Byte.is
    (alert_first alert)
    )
    (byte_is_no_stop c.args.event c.in-Byte.byte c.in-Byte.is)
    (
    record {
      front = [];
      addr = alert_address;
      asked = (refl, refl);
      spelled = ap (λ (es : List Event). es ++ c.args.event ∷ []) here.0
          ∙ ap (λ (e : Event). Start ∷ e ∷ []) c.in-Byte.is
          ∙ ap (λ (b : ℕ). Start ∷ Byte b ∷ []) alert;
    }
    )

pub returns-else-byte-read_address : goal.returns-else-byte-read_address
returns-else-byte-read_address c = λ profile events at stands.
    let bus = stands.bus in
    let here = at_place profile c.args.self.now events places.Start at stands in (
      λ turn follows.
          no_first_address c.in-Byte.byte c.if-byte-eq0.false
          (λ (is : c.in-Byte.byte ≡ read_address alert_address). c.if-byte-read_address.false
          (is ∙ sym (c.read_address.ensures.seven_bits (omega arith))))
          (
          (c.first_addresses.ensures profile c.in-Byte.byte bus).0
          (
          subst (λ (es : List Event). MayFollow profile es (Byte c.in-Byte.byte)) here.0
          (subst (λ (e : Event). MayFollow profile events e) c.in-Byte.is follows)
          )
          ),
      refl,
    )
