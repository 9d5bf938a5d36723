-- A leg that is refused after complete parts: its address, a byte of it, or the read address after
-- it. For `Bus::new`, `Bus::signal` and the laws on packets. The parts before act as in a write;
-- the member whose own leg was refused notes the byte, if it had a place there, or why it refused
-- to be read. Which byte was refused is one, the first after bytes that were taken.
use Rattle.std.proofs.Common.{◌≡◌, ℕ, ◌⊎◌, inl, inr, Bool, true, false, if◌then◌else◌, Some, List, [], ◌∷◌, ◌++◌}
use Rattle.std.proofs.Common.{nat_eq, refl, sym, ap, subst, ◌∙◌, append_assoc}
use Rattle.std.specs.List.{Contains, IsDistinct, list_any}
use Rattle.std.proofs.lemmas.Bool.{eq-eqb, eqb-true, or_from}
use Rattle.std.proofs.lemmas.List.{append-nil}
use Rattle.pmb_bus.specs.declared.event.Event.{Event}
use Rattle.pmb_bus.specs.declared.event.Event.TheVariants as wire
use Rattle.pmb_command.specs.Parts.{DeviceParts, IsNew, device_with}
use Rattle.pmb_leg.specs.declared.place.LegPlace.{LegPlace}
use Rattle.pmb_bus.specs.Address.{read_address, write_address}
use Rattle.pmb_transaction.specs.Body.{Allowed, IsProperPrefix, WriteBody, IsRequest}
use Rattle.pmb_command.specs.Wire as form
use Rattle.pmb_transaction.specs.Packet.{AddressRefused, ByteRefused, ReadRefused, acked, addresses, leg, nacked}
use Rattle.pmb_transaction.specs.Transaction.{PartData}
use Rattle.pmb_transaction.proofs.Data.{checked_is}
use Rattle.pmb_registers.specs.State.{DeviceState, InState}
use Rattle.pmb_registers.specs.Answer.{answer}
use Rattle.pmb_registers.specs.Apply.{after_parts, after_refusal, bit_of_answer, bit_of_sent, with_noted}
use Rattle.pmb_device.specs.declared.signal.HostSignal.TheVariants.{Byte}
use Rattle.pmb_device.specs.Legs.{Leg, Legs, Outside, Inside, is_to, leg_place, sent, some_is_to}
use Rattle.pmb_device.specs.Rules.{AllowedAt, GoesOn, IsWritten, TakesByte, TakesAll}
use Rattle.pmb_device.specs.Ends.{Acts, LegsEnd, OwnLegEnds, Refuses, no_write, writes}
use Rattle.pmb_devices.specs.Bus.{BusAnswers}
use Rattle.pmb_devices.proofs.Givers.{Acked, no_read_address, refused_byte, run_address, run_leg, run_one, took_all}
use Rattle.pmb_devices.proofs.Givers.{unread_written}
use Rattle.pmb_devices.proofs.OwnLegs.{byte_leg, ends_at, ends_without, is_to_other, sent_bytes}
use Rattle.pmb_devices.proofs.Parsing.{Stands, at_stop, closed}
use Rattle.pmb_devices.proofs.ReadLegs.{own, other, two_legs}
use Rattle.pmb_devices.proofs.Writes.{PartLegs, by_test, none_in_both, other_written, others_leave, parts_act}
use Rattle.pmb_devices.proofs.Writes.{parts_elsewhere}

-- ---- bytes of which the last is refused

-- each byte with ACK but for the last
nacked_last : (front : List ℕ) (last : ℕ) → nacked (front ++ last ∷ []) ≡ acked front ++ wire.Byte last ∷ wire.Nack ∷ []
nacked_last [] last = refl
nacked_last (b ∷ []) last = refl
nacked_last (b ∷ c ∷ front) last = ap (λ (es : List Event). wire.Byte b ∷ wire.Ack ∷ es) (nacked_last (c ∷ front) last)

none_in_front : {X : Type 0} (front : List X) (x : X) (back : List X) → front ++ x ∷ back ≡ [] → ⊥
none_in_front [] x back same = cc same
none_in_front (y ∷ front) x back same = cc same

module _ (device : DeviceParts) (place : LegPlace) where
  -- of bytes that are taken the last is
  pub takes_last : (taken front : List ℕ) (last : ℕ) → TakesAll device place taken (front ++ last ∷ [])
      → TakesByte device place (taken ++ front) last
  takes_last taken [] last all = subst (λ (bs : List ℕ). TakesByte device place bs last) (sym (append-nil taken)) all.0
  takes_last taken (b ∷ front) last all =
      subst (λ (bs : List ℕ). TakesByte device place bs last) (append_assoc taken (b ∷ []) front)
      (takes_last (taken ++ b ∷ []) front last all.1)

  -- There is one byte that is refused after bytes that are taken.
  pub record SameByte (front before : List ℕ) (last byte : ℕ) : Type 0 where
    pub fronts : front ≡ before
    pub bytes : last ≡ byte

  -- by the bytes in front
  one_refused : (taken front : List ℕ) (last : ℕ) (before : List ℕ) (byte : ℕ) (rest : List ℕ)
      → front ++ last ∷ [] ≡ before ++ byte ∷ rest
      → TakesAll device place taken front → (TakesByte device place (taken ++ before) byte → ⊥)
      → SameByte front before last byte
  one_refused taken [] last [] byte rest same all refused = record { fronts = refl; bytes = cc same }
  -- bytes before it would come after the end
  one_refused taken [] last (b ∷ before) byte rest same all refused =
      let nothing : before ++ byte ∷ rest ≡ [] = cc same in
      absurd (none_in_front before byte rest nothing)
  -- it would come earlier, among the bytes that were taken
  one_refused taken (b ∷ front) last [] byte rest same all refused =
      let is : b ≡ byte = cc same in
      absurd
      (
      refused
      (
      subst (λ (bs : List ℕ). TakesByte device place bs byte) (sym (append-nil taken))
      (subst (λ (n : ℕ). TakesByte device place taken n) is all.0)
      )
      )
  one_refused taken (b ∷ front) last (c ∷ before) byte rest same all refused =
      let is : b ≡ c = cc same in
      let more : front ++ last ∷ [] ≡ before ++ byte ∷ rest = cc same in
      let again : (taken ++ b ∷ []) ++ before ≡ taken ++ c ∷ before =
      append_assoc taken (b ∷ []) before ∙ ap (λ (n : ℕ). taken ++ n ∷ before) is in
      let later =
      one_refused (taken ++ b ∷ []) front last before byte rest more all.1
      (λ takes. refused (subst (λ (bs : List ℕ). TakesByte device place bs byte) again takes)) in
      let fronts : front ≡ before = later.fronts in
      record { fronts = cc; bytes = later.bytes }

-- What is noted of a refused byte is that bit.
noted_of : (device : DeviceParts) (place : LegPlace) (front : List ℕ) (last : ℕ) (before after : DeviceState)
    → TakesAll device place [] front
    → GoesOn device place front → Refuses device place (front ++ last ∷ []) before after
    → after ≡ with_noted device (bit_of_sent (front ++ last ∷ [])) before
noted_of device place front last before after taken room r =
    let same = one_refused device place [] front last r.front r.byte r.rest r.split taken r.refused in
    let sent_are : r.front ++ r.byte ∷ [] ≡ front ++ last ∷ [] =
    ap (λ (bs : List ℕ). bs ++ r.byte ∷ []) (sym same.fronts) ∙ ap (λ (n : ℕ). front ++ n ∷ []) (sym same.bytes) in
    elim r.noted [
      | inl w ↦ w.1 ∙ ap (λ (bs : List ℕ). with_noted device (bit_of_sent bs) before) sent_are
      | inr w ↦ absurd (w.0 (subst (GoesOn device place) same.fronts room))
    ]

-- no body is empty
pub no_empty_write : (device : DeviceParts) (code : ℕ) (content : List ℕ) (with_pec : Bool)
    → WriteBody device code content with_pec [] → ⊥
no_empty_write device code content with_pec body =
    let spelled_so = body.spelled ∙ checked_is with_pec (write_address device.address ∷ [])
    (code ∷ form.wire body.form content) in
    cc spelled_so

-- so a leg of an address alone does nothing
nothing_acts : (device : DeviceParts) (before after : DeviceState) → Acts device [] before after → after ≡ before
nothing_acts device before after (writes code content with_pec body is) =
    absurd (no_empty_write device code content with_pec body)
nothing_acts device before after (no_write none same) = same

module _ (profile : List DeviceParts) (members : List InState) (member : InState) (in_bus : Contains members member)
    (the_own : (found : DeviceParts) → device_with member.device.address profile ≡ Some found
    → found ≡ member.device) where
  -- Parts, and one leg more that is written: where that is the member's own, STOP notes what it
  -- refused.
  last_ends : (parts : List PartData) (addr : ℕ) (bytes : List ℕ) (legs : List Leg) (last : Leg) (after : DeviceState)
      → PartLegs profile members [] parts legs → IsDistinct nat_eq (addresses parts) → IsNew addr (addresses parts)
      → sent last ≡ write_address addr ∷ bytes
      → (addr ≡ member.device.address → some_is_to (write_address member.device.address) legs ≡ false
      → OwnLegEnds member.device legs bytes [] member.state after
      → after ≡ with_noted member.device (bit_of_sent bytes) member.state)
      → LegsEnd member.device (legs ++ last ∷ []) member.state after
      → after ≡ after_refusal member.device (record { parts = parts; addr = addr; sent = bytes; at_read = false })
      (after_parts member.device parts member.state)
  last_ends parts addr bytes legs last after each distinct new is noted ends =
      let d = member.device in
      let s = member.state in
      let w = write_address d.address in
      let refusal = λ (b : Bool). if b then with_noted d (bit_of_sent bytes) (after_parts d parts s) else after_parts d
      parts s in
      -- is the last leg to the member?
      by_test (nat_eq addr d.address) (nat_eq addr d.address) refl
      (
      -- yes: no part is, so that it notes what was refused, in its state before
      λ same.
      let addr_is : addr ≡ d.address = eqb-true addr d.address same in
      let alone : IsNew d.address (addresses parts) = subst (λ (a : ℕ). IsNew a (addresses parts)) addr_is new in
      let none = parts_elsewhere profile members d.address [] parts legs each alone in
      let sent_are : sent last ≡ w ∷ bytes = is ∙ ap (λ (a : ℕ). write_address a ∷ bytes) addr_is in
      noted addr_is none (ends_at d s after legs last [] bytes none sent_are ends)
      ∙ ap (with_noted d (bit_of_sent bytes)) (sym (others_leave d parts s alone))
      ∙ ap refusal (sym same)
      )
      (
      -- no: nothing is noted, and the parts act as far as one is for the member
      λ differs.
      let no_last : is_to w last ≡ false = is_to_other w (write_address addr) bytes last
      (other_written addr d.address differs) is in
      let unread : some_is_to (read_address d.address) (last ∷ []) ≡ false =
      or_from (is_to (read_address d.address) last) false
      (is_to_other (read_address d.address) (write_address addr) bytes last
      (λ same. no_read_address addr d.address same) is) refl in
      -- is a part for the member?
      by_test (list_any (nat_eq d.address) (addresses parts)) (list_any (nat_eq d.address) (addresses parts)) refl
      (
      λ some. parts_act profile members member in_bus the_own parts [] legs (last ∷ []) s after each distinct refl
      unread some ends ∙ ap refusal (sym differs)
      )
      (
      -- none is: its state stays
      λ alone.
      ends_without d s after (legs ++ last ∷ [])
      (
      none_in_both w legs (last ∷ []) (parts_elsewhere profile members d.address [] parts legs each alone)
      (or_from (is_to w last) false no_last refl)
      ) ends
      ∙ sym (others_leave d parts s alone)
      ∙ ap refusal (sym differs)
      )
      )

  -- after some parts the bodies are those of a later leg
  allowed_at : (device : DeviceParts) (parts : List PartData) (legs : List Leg) (body : List ℕ)
      → PartLegs profile members [] parts legs
      → Allowed device parts body → AllowedAt device (leg_place legs) body
  allowed_at device [] legs body each allowed = subst (λ (ls : List Leg). AllowedAt device (leg_place ls) body)
      (sym each) allowed
  allowed_at device (part ∷ parts) legs body each allowed =
      subst (λ (ls : List Leg). AllowedAt device (leg_place ls) body) (sym each.2) allowed

  -- a byte has a place after those before it
  room_at : (device : DeviceParts) (parts : List PartData) (legs : List Leg) (front : List ℕ)
      → PartLegs profile members [] parts legs
      → (front ≡ []) ⊎ ((body : List ℕ) × Allowed device parts body × IsProperPrefix front body)
      → GoesOn device (leg_place legs) front
  room_at device parts legs front each (inl none) = inl none
  room_at device parts legs front each (inr w) = inr (w.0, allowed_at device parts legs w.0 each w.1, w.2)

  -- ---- an address

  -- Where an address was refused: its leg is the last one.
  pub address_leg_of : (final reached : Legs) (addr : ℕ) (legs : List Leg) (last : List Event)
      → closed reached ≡ legs → AddressRefused profile addr last
      → Stands members final reached (last ++ wire.Stop ∷ [])
      → closed final ≡ legs ++ byte_leg (write_address addr ∷ []) ∷ []
  address_leg_of final reached addr legs last closed_is refused stands =
      let begun = subst (λ (es : List Event). Stands members final reached (es ++ wire.Stop ∷ [])) refused.spelled
      stands in
      let one = run_address members final reached (write_address addr) wire.Nack (wire.Stop ∷ []) begun in
      let own_leg = byte_leg (write_address addr ∷ []) in
      let is = at_stop members final (Inside (closed reached) own_leg) one.stands in
      ap closed (sym is) ∙ ap (λ (ls : List Leg). ls ++ own_leg ∷ []) closed_is

  -- Where an address is refused nothing is noted.
  pub address_refused : (final reached : Legs) (parts : List PartData) (addr : ℕ) (legs : List Leg) (last : List Event)
      (after : DeviceState)
      → closed reached ≡ legs → PartLegs profile members [] parts legs → IsDistinct nat_eq (addresses parts)
      → IsNew addr (addresses parts)
      → AddressRefused profile addr last → Stands members final reached (last ++ wire.Stop ∷ [])
      → LegsEnd member.device (closed final) member.state after
      → after ≡ after_refusal member.device (record { parts = parts; addr = addr; sent = []; at_read = false })
      (after_parts member.device parts member.state)
  address_refused final reached parts addr legs last after closed_is each distinct new refused stands ends =
      let own_leg = byte_leg (write_address addr ∷ []) in
      let legs_are = address_leg_of final reached addr legs last closed_is refused stands in
      last_ends parts addr [] legs own_leg after each distinct new refl
      (
      λ addr_is none own_ends.
      elim own_ends [ inl w ↦ nothing_acts member.device member.state after w.1 | inr w ↦ absurd (w.0 tt) ]
      )
      (subst (λ (ls : List Leg). LegsEnd member.device ls member.state after) legs_are ends)

  -- ---- a byte

  -- What a member did with the bytes of its own leg: it took those in front, and refused the last one.
  pub record RefusedByte (legs : List Leg) (front : List ℕ) (byte : ℕ) : Type 0 where
    pub taken : TakesAll member.device (leg_place legs) [] front
    pub not_taken : TakesByte member.device (leg_place legs) front byte → ⊥

  -- Where a byte was refused: its leg is the last one, and its device refused it.
  pub record ByteLeg (final : Legs) (addr : ℕ) (front : List ℕ) (byte : ℕ) (legs : List Leg) : Type 0 where
    pub own_leg : Leg
    pub legs_are : closed final ≡ legs ++ own_leg ∷ []
    pub sent_are : sent own_leg ≡ write_address addr ∷ (front ++ byte ∷ [])
    pub refused : addr ≡ member.device.address → some_is_to (write_address member.device.address) legs ≡ false
        → RefusedByte legs front byte

  pub byte_leg_of : (final reached : Legs) (parts : List PartData) (addr : ℕ) (bytes : List ℕ) (legs : List Leg)
      (last : List Event) → closed reached ≡ legs
      → (refused : ByteRefused profile parts addr bytes last) → Stands members final reached (last ++ wire.Stop ∷ [])
      → ByteLeg final addr refused.front refused.last legs
  byte_leg_of final reached parts addr bytes legs last closed_is refused stands =
      -- the bytes that had ACK, and the one that had NACK
      let d = member.device in
      let front = refused.front in
      let byte = refused.last in
      let rest = wire.Byte byte ∷ wire.Nack ∷ wire.Stop ∷ [] in
      -- the events of the leg, split there
      let behind : nacked bytes ++ wire.Stop ∷ [] ≡ acked front ++ rest =
      ap (λ (bs : List ℕ). nacked bs ++ wire.Stop ∷ []) refused.split
      ∙ ap (λ (es : List Event). es ++ wire.Stop ∷ []) (nacked_last front byte)
      ∙ append_assoc (acked front) (wire.Byte byte ∷ wire.Nack ∷ []) (wire.Stop ∷ []) in
      let spelled_so : last ++ wire.Stop ∷ [] ≡ leg (write_address addr ∷ front) ++ rest =
      ap (λ (es : List Event). es ++ wire.Stop ∷ []) refused.spelled
      ∙ ap (λ (es : List Event). leg (write_address addr ∷ []) ++ es) behind in
      -- the signals of the bytes before,
      let ran = run_leg members final reached addr front rest
      (subst (Stands members final reached) spelled_so stands) in
      -- and of the refused one, after which STOP comes
      let one =
      run_one members final (closed reached) (write_address addr ∷ front) byte wire.Nack (wire.Stop ∷ [])
      (unread_written addr front) ran.stands in
      -- so the refused leg is the last one
      let own_leg = byte_leg (write_address addr ∷ front ++ byte ∷ []) in
      let is = at_stop members final (Inside (closed reached) own_leg) one.stands in
      record {
        own_leg = own_leg;
        legs_are = ap closed (sym is) ∙ ap (λ (ls : List Leg). ls ++ own_leg ∷ []) closed_is;
        sent_are = sent_bytes (write_address addr ∷ front ++ byte ∷ []);
        refused = λ addr_is none.
            let w = write_address d.address in
            let own_written : IsWritten d legs w = record { own = refl; once = none } in
            -- it took the bytes before,
            let acks =
            subst (λ (a : ℕ). Acked members legs (write_address a ∷ []) front) addr_is
            (subst (λ (ls : List Leg). Acked members ls (write_address addr ∷ []) front) closed_is ran.acked_are) in
            let taken = took_all members member in_bus legs w [] front own_written tt acks in
            let answered =
            subst (λ (a : ℕ). BusAnswers members (Inside legs (byte_leg (write_address a ∷ front)))
            (Byte byte) one.result) addr_is
            (subst (λ (ls : List Leg). BusAnswers members (Inside ls (byte_leg (write_address addr ∷ front)))
            (Byte byte) one.result) closed_is one.answer) in
            -- and did not take this one
            record {
              taken = taken;
              not_taken = refused_byte members member in_bus legs w front byte one.result own_written taken answered
                  one.recorded_as;
            };
      }

  -- A refused byte is noted by the member that refused it.
  pub byte_refused : (final reached : Legs) (parts : List PartData) (addr : ℕ) (bytes : List ℕ) (legs : List Leg)
      (last : List Event) (after : DeviceState)
      → closed reached ≡ legs → PartLegs profile members [] parts legs → IsDistinct nat_eq (addresses parts)
      → IsNew addr (addresses parts)
      → ByteRefused profile parts addr bytes last → Stands members final reached (last ++ wire.Stop ∷ [])
      → LegsEnd member.device (closed final) member.state after
      → after ≡ after_refusal member.device (record { parts = parts; addr = addr; sent = bytes; at_read = false })
      (after_parts member.device parts member.state)
  byte_refused final reached parts addr bytes legs last after closed_is each distinct new refused stands ends =
      let d = member.device in
      let front = refused.front in
      let byte = refused.last in
      let here = byte_leg_of final reached parts addr bytes legs last closed_is refused stands in
      let sent_are : sent here.own_leg ≡ write_address addr ∷ bytes =
      here.sent_are ∙ ap (λ (bs : List ℕ). write_address addr ∷ bs) (sym refused.split) in
      last_ends parts addr bytes legs here.own_leg after each distinct new sent_are
      (
      -- it is the member's own: it took the bytes before, and did not take this one,
      λ addr_is none own_ends.
      let own = here.refused addr_is none in
      -- which had a place there:
      let device_is = the_own refused.device (subst (λ (a : ℕ). device_with a profile ≡ Some refused.device) addr_is
      refused.known) in
      let room = subst (λ (e : DeviceParts). GoesOn e (leg_place legs) front) device_is
      (room_at refused.device parts legs front each refused.begins) in
      let ended = subst (λ (bs : List ℕ). OwnLegEnds d legs bs [] member.state after) refused.split own_ends in
      -- so it notes this byte
      elim ended [
        | inl w ↦ absurd (own.not_taken (takes_last d (leg_place legs) [] front byte w.0))
        | inr w ↦
            noted_of d (leg_place legs) front byte member.state after own.taken room w.1
            ∙ ap (λ (bs : List ℕ). with_noted d (bit_of_sent bs) member.state) (sym refused.split)
      ]
      )
      (subst (λ (ls : List Leg). LegsEnd d ls member.state after) here.legs_are ends)

  -- ---- an address for reading

  -- Where a device refused to be read: the legs are its request, and one that begins with its read address.
  pub record ReadLegs (final : Legs) (addr : ℕ) (bytes : List ℕ) : Type 0 where
    pub legs_are : closed final ≡ byte_leg (write_address addr ∷ bytes) ∷ byte_leg (read_address addr ∷ []) ∷ []
    pub acked_are : Acked members [] (write_address addr ∷ []) bytes

  pub read_legs_of : (final : Legs) (addr : ℕ) (bytes : List ℕ) (last : List Event)
      → ReadRefused profile [] addr bytes last → Stands members final Outside (last ++ wire.Stop ∷ [])
      → ReadLegs final addr bytes
  read_legs_of final addr bytes last refused stands =
      -- the leg of the request, then START and its read address, which had NACK
      let behind = wire.Start ∷ wire.Byte (read_address addr) ∷ wire.Nack ∷ [] in
      let spelled_so : last ++ wire.Stop ∷ [] ≡ leg (write_address addr ∷ bytes) ++ (behind ++ wire.Stop ∷ []) =
      ap (λ (es : List Event). es ++ wire.Stop ∷ []) refused.spelled
      ∙ append_assoc (leg (write_address addr ∷ bytes)) behind (wire.Stop ∷ []) in
      let first = byte_leg (write_address addr ∷ bytes) in
      let next = byte_leg (read_address addr ∷ []) in
      -- the signals of both legs, and STOP
      let ran = run_leg members final Outside addr bytes (behind ++ wire.Stop ∷ [])
      (subst (Stands members final Outside) spelled_so stands) in
      let read = run_address members final (Inside [] first) (read_address addr) wire.Nack
      (wire.Stop ∷ []) ran.stands in
      let is = at_stop members final (Inside (first ∷ []) next) read.stands in
      record { legs_are = ap closed (sym is); acked_are = ran.acked_are }

  -- So is a refusal to be read.
  pub read_refused : (final : Legs) (addr : ℕ) (bytes : List ℕ) (last : List Event) (after : DeviceState)
      → ReadRefused profile [] addr bytes last → Stands members final Outside (last ++ wire.Stop ∷ [])
      → LegsEnd member.device (closed final) member.state after
      → after ≡ after_refusal member.device (record { parts = []; addr = addr; sent = bytes; at_read = true })
      member.state
  read_refused final addr bytes last after refused stands ends =
      let d = member.device in
      let s = member.state in
      let both = read_legs_of final addr bytes last refused stands in
      let next = byte_leg (read_address addr ∷ []) in
      let refusal = λ (b : Bool). if b then with_noted d (bit_of_answer (answer d s bytes)) s else s in
      -- the member notes why, if the request was to it
      let two =
      two_legs members member in_bus addr bytes next [] after refl
      (
      λ addr_is.
      subst (λ (e : DeviceParts). IsRequest e bytes)
      (the_own refused.device (subst (λ (a : ℕ). device_with a profile ≡ Some refused.device) addr_is refused.known))
      refused.body
      ) both.acked_are (subst (λ (ls : List Leg). LegsEnd d ls s after) both.legs_are ends) in
      elim two [
        | own addr_is same ↦ same ∙ ap refusal (sym (eq-eqb addr d.address addr_is))
        | other differs same ↦ same ∙ ap refusal (sym differs)
      ]
