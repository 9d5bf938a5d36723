-- Where the events since the last STOP are, with STOP, a transaction's packet, STOP makes of each
-- member what the transaction makes of it. For `Bus::new`, `Bus::signal` and the laws
-- `transactions_are_applied`, `transactions_are_applied_in_turn`. From the events of each kind of
-- packet the legs of the host's signals are known; in them a member's own leg, or none, says what
-- STOP does; and what each member took there (`Written`) says what the others take of it.
use Rattle.std.proofs.Common.{◌≡◌, ℕ, inl, inr, Bool, true, false, Some, None, List, [], ◌∷◌, ◌++◌, map, nat_eq, refl}
use Rattle.std.proofs.Common.{sym, ap, subst, ◌∙◌, append_assoc}
use Rattle.std.specs.List.{Contains, IsDistinct, list_any}
use Rattle.std.proofs.lemmas.List.{append-nil}
use Rattle.pmb_bus.specs.declared.event.Event.{Event}
use Rattle.pmb_bus.specs.declared.event.Event.TheVariants as wire
use Rattle.pmb_command.specs.Bus.{IsBus}
use Rattle.pmb_command.specs.Parts.{DeviceParts, IsNew, device_with}
use Rattle.pmb_bus.specs.Address.{read_address, alert_address}
use Rattle.pmb_transaction.specs.Body.{IsCallBody, IsReadBody, checked}
use Rattle.pmb_command.specs.Wire as form
use Rattle.pmb_transaction.specs.Packet.{CallPacket, Packet, PartsEvents, ReadPacket, RefusedLeg, RefusedPacket}
use Rattle.pmb_transaction.specs.Packet.{WritePacket, addresses, answered}
use Rattle.pmb_transaction.specs.Transaction.{CallData, PartData, ReadData, RefusedData, TransactionData, Write, Read}
use Rattle.pmb_transaction.specs.Transaction.{Call, Refused, Alert, NoAlert}
use Rattle.pmb_registers.specs.State.{DeviceState, InState}
use Rattle.pmb_registers.specs.Apply.{after_others, after_parts, after_refusal, apply, part_to}
use Rattle.pmb_device.specs.Legs.{Leg, Legs, Outside, Inside}
use Rattle.pmb_device.specs.Ends.{Ends, LegsEnd, Took, no_leg}
use Rattle.pmb_devices.specs.Bus.{AreAnswered, AnsweredSignal, recorded_events, legs_after}
use Rattle.pmb_devices.specs.Stops.{EndsOn, IsWrittenAt, TakesEach}
use Rattle.pmb_devices.proofs.Devices.{found_is_own}
use Rattle.pmb_devices.proofs.OwnLegs.{ends_without}
use Rattle.pmb_devices.proofs.Parsing.{Stands, at_stop, closed}
use Rattle.pmb_devices.proofs.ReadLegs.{alerts_change_nothing, answered_changes_nothing, no_alert_changes_nothing}
use Rattle.pmb_devices.proofs.Refusals.{address_refused, byte_refused, read_refused}
use Rattle.pmb_devices.proofs.Taken.{nothing_taken, parts_taken, written_so}
use Rattle.pmb_devices.proofs.Writes.{PartLegs, by_test, others_leave, parts_act, parts_elsewhere, run_parts}
use Rattle.pmb_devices.proofs.Written.{alert_took, answered_took, no_alert_took, part_is_known, refused_took}
use Rattle.pmb_devices.proofs.Written.{write_took}

-- after legs that ended, none is under way outside of a packet
closed_ends : (device : DeviceParts) (legs : Legs) (before after : DeviceState) → Ends device legs before after
    → LegsEnd device (closed legs) before after
closed_ends device Outside before after same = no_leg refl same
closed_ends device (Inside earlier leg) before after ends = ends

-- what a transaction makes of a state by the device's own leg
abbrev pub after_own : DeviceParts → TransactionData → DeviceState → DeviceState
after_own device (Write parts) state = after_parts device parts state
after_own device (Read t) state = state
after_own device (Call t) state = state
after_own device (Refused t) state = after_refusal device t (after_parts device t.parts state)
after_own device (Alert t) state = state
after_own device NoAlert state = state

module _ (profile : List DeviceParts) (members : List InState) (member : InState) (in_bus : Contains members member)
    (own : (found : DeviceParts) → device_with member.device.address profile ≡ Some found → found ≡ member.device)
    (final : Legs)
    (after : DeviceState) (ends : LegsEnd member.device (closed final) member.state after) where
  -- ---- complete parts

  -- What STOP makes of a member after the legs of parts.
  parts_end : (parts : List PartData) (legs : List Leg) → PartLegs profile members [] parts legs
      → IsDistinct nat_eq (addresses parts)
      → LegsEnd member.device legs member.state after → after ≡ after_parts member.device parts member.state
  parts_end parts legs each distinct ended =
      let d = member.device in
      by_test (list_any (nat_eq d.address) (addresses parts)) (list_any (nat_eq d.address) (addresses parts)) refl
      (
      λ some.
      parts_act profile members member in_bus own parts [] legs [] member.state after each distinct refl refl some
      (subst (λ (ls : List Leg). LegsEnd d ls member.state after) (sym (append-nil legs)) ended)
      )
      (
      λ alone.
      ends_without d member.state after legs (parts_elsewhere profile members d.address [] parts legs each alone) ended
      ∙ sym (others_leave d parts member.state alone)
      )

  -- a write
  write_applied : (parts : List PartData) (events : List Event) → WritePacket profile parts events
      → Stands members final Outside events
      → after ≡ after_parts member.device parts member.state
  write_applied parts events packet stands =
      let ran = run_parts profile members final Outside parts packet.legs (wire.Stop ∷ []) packet.each
      (subst (Stands members final Outside) packet.spelled stands) in
      let is = at_stop members final ran.reached ran.stands in
      let legs_are : closed final ≡ ran.new = ap closed (sym is) ∙ ran.closed_are in
      parts_end parts ran.new ran.each packet.distinct
      (subst (λ (ls : List Leg). LegsEnd member.device ls member.state after) legs_are ends)

  -- ---- a read, and a call

  -- a read
  read_applied : (t : ReadData) (events : List Event) → ReadPacket profile t events
      → Stands members final Outside events → after ≡ member.state
  read_applied t events packet stands =
      let body = t.code ∷ [] in
      answered_changes_nothing members member in_bus final t.addr body (form.wire packet.form t.reply) t.pec after
      (
      λ addr_is.
      let device_is = own packet.device (subst (λ (a : ℕ). device_with a profile ≡ Some packet.device) addr_is
      packet.known) in
      let request : IsReadBody packet.device body =
      (t.code, packet.form, record { read = packet.read; spelled = refl }) in
      inl (subst (λ (d : DeviceParts). IsReadBody d body) device_is request)
      ) (subst (Stands members final Outside) packet.spelled stands) ends

  -- a call
  call_applied : (t : CallData) (events : List Event) → CallPacket profile t events
      → Stands members final Outside events → after ≡ member.state
  call_applied t events packet stands =
      let body = t.code ∷ form.wire packet.form t.bytes in
      answered_changes_nothing members member in_bus final t.addr body (form.wire packet.form t.reply) t.pec after
      (
      λ addr_is.
      let device_is = own packet.device (subst (λ (a : ℕ). device_with a profile ≡ Some packet.device) addr_is
      packet.known) in
      let request : IsCallBody packet.device body =
      (t.code, packet.form, t.bytes, record { called = packet.called; fits = packet.sent; spelled = refl }) in
      inr (subst (λ (d : DeviceParts). IsCallBody d body) device_is request)
      ) (subst (Stands members final Outside) packet.spelled stands) ends

  -- ---- a refusal

  -- the refused leg of each sort
  leg_refused : (parts : List PartData) (addr : ℕ) (sent : List ℕ) (at_read : Bool) (legs last : List Event)
      → PartsEvents profile parts legs
      → IsDistinct nat_eq (addresses parts) → IsNew addr (addresses parts)
      → RefusedLeg profile parts addr sent at_read last
      → Stands members final Outside (legs ++ (last ++ wire.Stop ∷ []))
      → after ≡ after_refusal member.device (record { parts = parts; addr = addr; sent = sent; at_read = at_read })
      (after_parts member.device parts member.state)
  -- an address was refused
  leg_refused parts addr [] false legs last each distinct new refused stands =
      let ran = run_parts profile members final Outside parts legs (last ++ wire.Stop ∷ []) each stands in
      address_refused profile members member in_bus own final ran.reached parts addr ran.new last after ran.closed_are
      ran.each distinct new refused
      ran.stands ends
  -- a byte was refused
  leg_refused parts addr (b ∷ bytes) false legs last each distinct new refused stands =
      let ran = run_parts profile members final Outside parts legs (last ++ wire.Stop ∷ []) each stands in
      byte_refused profile members member in_bus own final ran.reached parts addr
      (b ∷ bytes) ran.new last after ran.closed_are ran.each distinct new
      refused ran.stands ends
  -- the read address was refused, after no parts
  leg_refused [] addr [] true legs last each distinct new refused stands =
      read_refused profile members member in_bus own final addr [] last after refused
      (subst (λ (es : List Event). Stands members final Outside (es ++ (last ++ wire.Stop ∷ []))) each stands) ends
  leg_refused [] addr (b ∷ bytes) true legs last each distinct new refused stands =
      read_refused profile members member in_bus own final addr (b ∷ bytes) last after refused
      (subst (λ (es : List Event). Stands members final Outside (es ++ (last ++ wire.Stop ∷ []))) each stands) ends
  -- with parts before it no read address is refused
  leg_refused (part ∷ parts) addr [] true legs last each distinct new refused stands = absurd (cc refused.alone)
  leg_refused (part ∷ parts) addr (b ∷ bytes) true legs last each distinct new refused stands =
      absurd (cc refused.alone)

  -- a refused packet
  refused_applied : (t : RefusedData) (events : List Event) → RefusedPacket profile t events
      → Stands members final Outside events
      → after ≡ after_refusal member.device t (after_parts member.device t.parts member.state)
  refused_applied t events packet stands =
      let spelled : events ≡ packet.legs ++ (packet.last ++ wire.Stop ∷ []) =
      packet.spelled ∙ append_assoc packet.legs packet.last (wire.Stop ∷ []) in
      leg_refused t.parts t.addr t.sent t.at_read packet.legs packet.last packet.each packet.distinct packet.another
      packet.refused
      (subst (Stands members final Outside) spelled stands)

  -- ---- each variant

  -- What the transaction makes of the member, by its own leg, is what STOP does.
  pub packet_applied : (t : TransactionData) (events : List Event) → Packet profile t events
      → Stands members final Outside events
      → after ≡ after_own member.device t member.state
  packet_applied (Write parts) events packet stands = write_applied parts events packet stands
  packet_applied (Read t) events packet stands = read_applied t events packet stands
  packet_applied (Call t) events packet stands = call_applied t events packet stands
  packet_applied (Refused t) events packet stands = refused_applied t events packet stands
  packet_applied (Alert t) events packet stands =
      alerts_change_nothing members member in_bus final (checked t.pec (read_address alert_address ∷ []) (t.byte ∷ []))
      after
      (subst (Stands members final Outside) packet.spelled stands) ends
  packet_applied NoAlert events packet stands =
      no_alert_changes_nothing members member in_bus final after (subst (Stands members final Outside) packet stands)
      ends

-- ---- what was written at other addresses

module _ (profile : List DeviceParts) (members : List InState) (bus : IsBus profile)
    (is : map (λ m. m.device) members ≡ profile) (final : Legs) where
  -- the device with a member's address is its own
  own_of : (member : InState) → Contains members member → (found : DeviceParts)
      → device_with member.device.address profile ≡ Some found → found ≡ member.device
  own_of member in_bus = found_is_own profile members member bus is in_bus

  -- What was written at each address is the first part to it,
  parts_written : (parts : List PartData) (legs : List Event) → PartsEvents profile parts legs
      → ((member : InState) → Contains members member
      → Took member.device final (part_to member.device.address parts))
      → (address : ℕ) → IsWrittenAt profile final address (part_to address parts)
  parts_written parts legs each took address =
      written_so members final address (part_to address parts) profile is
      (part_is_known profile address parts legs each)
      (λ member inside here.
      subst (λ (a : ℕ). Took member.device final (part_to a parts)) here (took member inside))

  -- or nothing.
  none_written : ((member : InState) → Contains members member → Took member.device final None)
      → (address : ℕ) → IsWrittenAt profile final address None
  none_written took address =
      written_so members final address None profile is (λ nobody. refl) (λ member inside here. took member inside)

  module _ (device : DeviceParts) (before between after : DeviceState)
      (takes : TakesEach profile final device device.also between after) where
    -- So a device takes the parts to its other addresses.
    others_applied : (t : TransactionData) (events : List Event) → Packet profile t events
        → Stands members final Outside events → between ≡ after_own device t before → after ≡ apply device t before
    others_applied (Write parts) events packet stands own_is =
        let ran = run_parts profile members final Outside parts packet.legs (wire.Stop ∷ []) packet.each
        (subst (Stands members final Outside) packet.spelled stands) in
        let legs_are : closed final ≡ ran.new =
        ap closed (sym (at_stop members final ran.reached ran.stands)) ∙ ran.closed_are in
        parts_taken profile final device parts
        (parts_written parts packet.legs packet.each
        (λ member inside. write_took profile members member inside (own_of member inside) final parts ran.new ran.each
        packet.distinct legs_are))
        device.also between after takes
        ∙ ap (λ (state : DeviceState). after_others device device.also parts state) own_is
    others_applied (Read t) events packet stands own_is =
        nothing_taken profile final device
        (none_written (λ member inside.
        answered_took profile members member inside (own_of member inside) final t.addr (t.code ∷ [])
        (form.wire packet.form t.reply) t.pec (subst (Stands members final Outside) packet.spelled stands)))
        device.also between after takes
        ∙ own_is
    others_applied (Call t) events packet stands own_is =
        nothing_taken profile final device
        (none_written (λ member inside.
        answered_took profile members member inside (own_of member inside) final t.addr
        (t.code ∷ form.wire packet.form t.bytes) (form.wire packet.form t.reply) t.pec
        (subst (Stands members final Outside) packet.spelled stands)))
        device.also between after takes
        ∙ own_is
    others_applied (Refused t) events packet stands own_is =
        let spelled : events ≡ packet.legs ++ (packet.last ++ wire.Stop ∷ []) =
        packet.spelled ∙ append_assoc packet.legs packet.last (wire.Stop ∷ []) in
        parts_taken profile final device t.parts
        (parts_written t.parts packet.legs packet.each
        (λ member inside. refused_took profile members member inside (own_of member inside) final t.parts t.addr t.sent
        t.at_read packet.legs packet.last packet.each packet.distinct packet.refused
        (subst (Stands members final Outside) spelled stands)))
        device.also between after takes
        ∙ ap (λ (state : DeviceState). after_others device device.also t.parts state) own_is
    others_applied (Alert t) events packet stands own_is =
        nothing_taken profile final device
        (none_written (λ member inside.
        alert_took profile members member inside (own_of member inside) final
        (checked t.pec (read_address alert_address ∷ []) (t.byte ∷ []))
        (subst (Stands members final Outside) packet.spelled stands)))
        device.also between after takes
        ∙ own_is
    others_applied NoAlert events packet stands own_is =
        nothing_taken profile final device
        (none_written (λ member inside.
        no_alert_took profile members member inside (own_of member inside) final
        (subst (Stands members final Outside) packet stands)))
        device.also between after takes
        ∙ own_is

-- Transactions are applied.
pub transactions_are_applied : (profile : List DeviceParts) (members : List InState) (history : List AnsweredSignal)
    (t : TransactionData)
    (member : InState) (after : DeviceState) → IsBus profile → map (λ m. m.device) members ≡ profile
    → AreAnswered members Outside history
    → Packet profile t (recorded_events history ++ wire.Stop ∷ []) → Contains members member
    → EndsOn profile (legs_after Outside history) member.device member.state after
    → after ≡ apply member.device t member.state
transactions_are_applied profile members history t member after bus is answered packet in_bus ends =
    let final = legs_after Outside history in
    let events = recorded_events history ++ wire.Stop ∷ [] in
    let stands : Stands members final Outside events =
    record { more = history; answered = answered; spelled = refl; ends = refl } in
    others_applied profile members bus is final member.device member.state ends.between after ends.others t events
    packet stands
    (packet_applied profile members member in_bus (found_is_own profile members member bus is in_bus) final ends.between
    (closed_ends member.device final member.state ends.between ends.own) t events packet stands)
