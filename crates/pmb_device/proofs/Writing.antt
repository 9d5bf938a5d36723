-- A byte after the address of a device's own leg: it is taken and gets ACK, or is refused and gets
-- NACK. For `DevicePacket::data_byte`. What is kept grows by a byte that is taken; after one that
-- is refused the device is deaf to the leg, and notes why if a byte had a place there.
use Rattle.std.proofs.Common.{◌≡◌, ℕ, inl, inr, Bool, true, false, Option, None, List, [], ◌∷◌, ◌++◌, refl, sym, ap}
use Rattle.std.proofs.Common.{subst, ◌∙◌, IsTrue, ◌↔◌}
use Rattle.pmb_command.specs.Parts.{DeviceParts}
use Rattle.pmb_bus.specs.Address.{write_address}
use Rattle.pmb_transaction.specs.Reason.{Whether}
use Rattle.pmb_leg.specs.declared.place.LegPlace.{LegPlace}
use Rattle.pmb_leg.specs.Leg.{Written}
use Rattle.pmb_registers.specs.declared.cml_bit.CmlBit.{CmlBit}
use Rattle.pmb_registers.specs.State.{DeviceState}
use Rattle.pmb_registers.specs.Apply.{bit_of_sent, with_noted}
use Rattle.pmb_device.specs.declared.device_packet.LegPhase.{LegPhase}
use Rattle.pmb_device.specs.declared.device_packet.LegPhase.TheVariants as phases
use Rattle.pmb_device.specs.declared.device_packet.DevicePacket.{DevicePacket}
use Rattle.pmb_device.specs.declared.device_packet.Heard.TheVariants as heard
use Rattle.pmb_device.specs.declared.signal.HostSignal.TheVariants.{Byte}
use Rattle.pmb_device.specs.declared.signal.DeviceSignal.{DeviceSignal}
use Rattle.pmb_device.specs.declared.signal.DeviceSignal.TheVariants as answered
use Rattle.pmb_device.specs.Legs.{Leg, Legs, Outside, Inside, leg_place, sent}
use Rattle.pmb_device.specs.Rules.{AnswersByte, GoesOn, IsWritten, TakesByte}
use Rattle.pmb_device.specs.machine.Standing.{AllTaken, BytesAre, InDeaf, InLeg, InWritten, Kept, Notes, StandsIn}
use Rattle.pmb_device.specs.machine.Standing.{answers, kept, no_answer, no_reply, under_way}
use Rattle.pmb_device.specs.DevicePacket.{Hears}
use Rattle.pmb_device.proofs.Signals.{next_byte}
use Rattle.pmb_device.proofs.Taken.{one_more_taken, taken_at}
use Rattle.pmb_device.proofs.Asking.{no_address}

-- nothing is noted where no leg stands after
pub none_noted : (device : DeviceParts) (state : DeviceState) (noted : Option CmlBit) (before : List Leg)
    (bytes : List ℕ) → Notes device state noted before bytes [] → noted ≡ None
none_noted device state noted before bytes (answers has is) = cc has.read
none_noted device state noted before bytes (no_answer has is) = is

pub nothing_to_note : (device : DeviceParts) (state : DeviceState) (noted : Option CmlBit) (before : List Leg)
    (bytes : List ℕ) → noted ≡ None → Notes device state noted before bytes []
nothing_to_note device state noted before bytes is = no_answer (λ has. cc has.read) is

module _ (device : DeviceParts) (state : DeviceState) where
  all_taken : (k : Kept) (earlier : List Leg) (leg : Leg) → (w : InWritten device state k earlier leg)
      → AllTaken device state k earlier w.bytes []
  all_taken k earlier leg w = subst (λ (r : Bool). BytesAre r device state k earlier w.bytes []) w.not_refused
      w.own.body

  answers_in_leg : (k : Kept) (earlier : List Leg) (leg : Leg) (byte : ℕ) (result : DeviceSignal)
      → (w : InWritten device state k earlier leg)
      → Whether (TakesByte device (leg_place earlier) w.bytes byte) (result ≡ answered.Ack) (result ≡ answered.Nack)
      → AnswersByte device state earlier (sent leg) byte result
  answers_in_leg k earlier leg byte result w is =
      let written : IsWritten device earlier (write_address device.address) =
      record { own = refl; once = w.own.first } in
      let here : AnswersByte device state earlier (write_address device.address ∷ w.bytes) byte result =
      inl (written, inl ((all_taken k earlier leg w).taken, is)) in
      subst (λ (bytes : List ℕ). AnswersByte device state earlier bytes byte result) (sym w.own.bytes_are) here

  -- it is taken
  taken_in : (k after : Kept) (earlier : List Leg) (leg : Leg) (byte : ℕ) → (w : InWritten device state k earlier leg)
      → TakesByte device (leg_place earlier) w.bytes byte
      → after.own ≡ k.own → after.refused ≡ k.refused → after.read ≡ k.read → after.noted ≡ k.noted
      → after.leg ≡ record { device = device; place = leg_place earlier; bytes = w.bytes ++ byte ∷ [] }
      → InWritten device state after earlier (leg ++ Byte byte ∷ [])
  taken_in k after earlier leg byte w takes own refused read noted leg_is =
      -- all before it was taken, with nothing noted
      let all = all_taken k earlier leg w in
      let none : after.noted ≡ None = noted ∙ none_noted device state k.noted earlier w.bytes all.notes in
      let more : AllTaken device state after earlier (w.bytes ++ byte ∷ []) [] = record {
        leg_is = leg_is;
        taken = one_more_taken device (leg_place earlier) [] w.bytes byte all.taken takes;
        notes = nothing_to_note device state after.noted earlier (w.bytes ++ byte ∷ []) none;
      } in
      let not_refused : after.refused ≡ false = refused ∙ w.not_refused in
      -- the leg has one byte more
      record {
        bytes = w.bytes ++ byte ∷ [];
        own = record {
          kept_own = own ∙ w.own.kept_own;
          first = w.own.first;
          bytes_are = next_byte leg (write_address device.address) w.bytes byte w.own.bytes_are;
          body = subst (λ (r : Bool). BytesAre r device state after earlier (w.bytes ++ byte ∷ []) [])
              (sym not_refused) more;
          read = read ∙ w.own.read;
        };
        not_refused = not_refused;
      }

  note_is : (place : LegPlace) (bytes : List ℕ) (byte : ℕ) (noted : Option CmlBit)
      → Whether (GoesOn device place bytes) (noted ≡ bit_of_sent (bytes ++ byte ∷ [])) (noted ≡ None)
      → Whether (GoesOn device place bytes) (with_noted device noted state
      ≡ with_noted device (bit_of_sent (bytes ++ byte ∷ [])) state) (with_noted device noted state ≡ state)
  note_is place bytes byte noted (inl w) = inl (w.0, ap (λ (n : Option CmlBit). with_noted device n state) w.1)
  note_is place bytes byte noted (inr w) = inr (w.0, ap (λ (n : Option CmlBit). with_noted device n state) w.1)

  -- it is refused
  refused_in : (k after : Kept) (earlier : List Leg) (leg : Leg) (byte : ℕ) → (w : InWritten device state k earlier leg)
      → (TakesByte device (leg_place earlier) w.bytes byte → ⊥) → after.own ≡ k.own → after.refused ≡ true
      → after.read ≡ k.read
      → Whether (GoesOn device (leg_place earlier) w.bytes) (after.noted ≡ bit_of_sent (w.bytes ++ byte ∷ []))
      (after.noted ≡ None)
      → InDeaf device state after earlier (leg ++ Byte byte ∷ [])
  refused_in k after earlier leg byte w takes own refused read noted =
      let place = leg_place earlier in
      let all = all_taken k earlier leg w in
      let more = next_byte leg (write_address device.address) w.bytes byte w.own.bytes_are in
      -- the bytes before it were taken, this one was not
      let body : BytesAre true device state after earlier (w.bytes ++ byte ∷ []) [] = record {
        front = w.bytes;
        byte = byte;
        rest = [];
        split = refl;
        taken = all.taken;
        refused = takes;
        noted = note_is place w.bytes byte after.noted noted;
      } in
      record {
        -- the device is deaf to the rest of the leg,
        addressed = record {
          address = write_address device.address;
          bytes = w.bytes ++ byte ∷ [];
          sent_is = more;
          own = under_way (w.bytes ++ byte ∷ []) (record {
            kept_own = own ∙ w.own.kept_own;
            first = w.own.first;
            bytes_are = more;
            body = subst (λ (r : Bool). BytesAre r device state after earlier (w.bytes ++ byte ∷ []) [])
                (sym refused) body;
            read = read ∙ w.own.read;
          });
          no_bytes = inl (
            record { own = refl; once = w.own.first },
            λ taken. takes (taken_at device place [] w.bytes byte [] taken),
          );
        };
        -- and gives no reply in it, since the leg is written
        mute = no_reply (λ address bytes is asked read_in reply ok.
            let same : address ≡ write_address device.address = cc (sym is ∙ more) in
            no_address device address same read_in.own);
      }

-- ---- the exchange

writing : (x : DevicePacket) (device : DeviceParts) (state : DeviceState) (earlier : List Leg) (leg : Leg)
    → x.phase ≡ phases.Written → StandsIn x device state (Inside earlier leg)
    → InWritten device state (kept x) earlier leg
writing x device state earlier leg phase stands =
    subst (λ (p : LegPhase). InLeg p x device state earlier leg) phase stands.behind.1

-- what the kept leg takes is what the device takes
takes_here : (kept_device device : DeviceParts) (w : Written) (place : LegPlace) (bytes : List ℕ) (byte : ℕ)
    (result : Bool) → kept_device ≡ device
    → w ≡ record { device = device; place = place; bytes = bytes }
    → (w.device ≡ kept_device → (IsTrue result ↔ TakesByte kept_device w.place w.bytes byte))
    → (IsTrue result ↔ TakesByte device place bytes byte)
takes_here kept_device device w place bytes byte result known is takes =
    let P : DeviceParts → Written → Type 0 = λ d l. l.device ≡ d → (IsTrue result ↔ TakesByte d l.place l.bytes byte) in
    let here : Written = record { device = device; place = place; bytes = bytes } in
    let by_leg : P kept_device here = subst (λ (l : Written). P kept_device l) is takes in
    let by_device : P device here = subst (λ (d : DeviceParts). P d here) known by_leg in
    by_device refl

pub takes_data : (x : DevicePacket) (byte : ℕ) (leg_after : Written) → x.phase ≡ phases.Written
    → (x.leg.device ≡ x.device.now → (IsTrue true ↔ TakesByte x.device.now x.leg.place x.leg.bytes byte))
    → leg_after ≡ record x.leg { bytes = x.leg.bytes ++ byte ∷ [] }
    → (device : DeviceParts) (state : DeviceState) (legs : Legs) → StandsIn x device state legs
    → Hears device state legs byte heard.Ack (record x { leg = leg_after })
takes_data x byte leg_after phase takes after device state Outside stands = cc (phase, stands.behind)
takes_data x byte leg_after phase takes after device state (Inside earlier leg) stands =
    -- the leg as it is kept, and that the device takes this byte after it
    let w = writing x device state earlier leg phase stands in
    let all = all_taken device state (kept x) earlier leg w in
    let told = takes_here x.device.now device x.leg (leg_place earlier) w.bytes byte true stands.known all.leg_is
    takes in
    let here : TakesByte device (leg_place earlier) w.bytes byte = told.0 refl in
    -- it is kept with the byte
    let leg_is : leg_after ≡ record { device = device; place = leg_place earlier; bytes = w.bytes ++ byte ∷ [] } =
    after ∙ ap (λ (l : Written). let y : Written = record l { bytes = l.bytes ++ byte ∷ [] } in y) all.leg_is in
    let y : DevicePacket = record x { leg = leg_after } in
    let next = taken_in device state (kept x) (kept y) earlier leg byte w here refl refl refl refl leg_is in (
      answers_in_leg device state (kept x) earlier leg byte answered.Ack w (inl (here, refl)),
      record {
        known = stands.known;
        accepted = stands.accepted;
        behind = (
          stands.behind.0,
          subst (λ (p : LegPhase). InLeg p y device state earlier (leg ++ Byte byte ∷ []))
              (sym phase) next,
        );
      },
    )

pub refuses_data : (x : DevicePacket) (byte : ℕ) (leg_after : Written) (noted : Option CmlBit)
    → x.phase ≡ phases.Written
    → (x.leg.device ≡ x.device.now → (IsTrue false ↔ TakesByte x.device.now x.leg.place x.leg.bytes byte))
    → leg_after ≡ x.leg
    → Whether (GoesOn leg_after.device leg_after.place leg_after.bytes)
    (noted ≡ bit_of_sent (leg_after.bytes ++ byte ∷ [])) (noted ≡ None)
    → (device : DeviceParts) (state : DeviceState) (legs : Legs) → StandsIn x device state legs
    → Hears device state legs byte heard.Nack
    (record x { leg = leg_after; noted = noted; refused = true; phase = phases.Deaf })
refuses_data x byte leg_after noted phase takes after noted_is device state Outside stands = cc (phase, stands.behind)
refuses_data x byte leg_after noted phase takes after noted_is device state (Inside earlier leg) stands =
    -- the leg as it is kept, and that the device doesn't take this byte after it
    let w = writing x device state earlier leg phase stands in
    let all = all_taken device state (kept x) earlier leg w in
    let told = takes_here x.device.now device x.leg (leg_place earlier) w.bytes byte false stands.known all.leg_is
    takes in
    let never : TakesByte device (leg_place earlier) w.bytes byte → ⊥ = λ t. cc (told.1 t) in
    -- what is noted of it
    let P : Written → Type 0 = λ l. Whether (GoesOn l.device l.place l.bytes)
    (noted ≡ bit_of_sent (l.bytes ++ byte ∷ [])) (noted ≡ None) in
    let note = subst P (after ∙ all.leg_is) noted_is in
    let y : DevicePacket = record x { leg = leg_after; noted = noted; refused = true; phase = phases.Deaf } in (
      answers_in_leg device state (kept x) earlier leg byte answered.Nack w (inr (never, refl)),
      record {
        known = stands.known;
        accepted = stands.accepted;
        behind = (
          stands.behind.0,
          refused_in device state (kept x) (kept y) earlier leg byte w never refl refl refl
              note,
        );
      },
    )
