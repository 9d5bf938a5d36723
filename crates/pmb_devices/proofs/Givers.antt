-- The bytes of a leg that is written, each with the answer of the bus, and what a member took of
-- them. For `Bus::new`, `Bus::signal` and the laws on packets. Events of acknowledged bytes are
-- run through one after the other (`run`); the answer of the bus is that of a member or silence,
-- so that a member took each byte of its own leg that had ACK, and not the one that had NACK.
use Rattle.std.proofs.Common.{◌≡◌, ℕ, inl, inr, List, [], ◌∷◌, ◌++◌, None, Result, Ok, Err, refl, sym, ap, subst, ◌∙◌}
use Rattle.std.proofs.Common.{append_assoc, arith}
use Rattle.std.specs.List.{Contains}
use Rattle.std.proofs.lemmas.List.{append-nil}
use Rattle.std.proofs.lemmas.List.Elements.{All-contains, All-from_recursion}
use Rattle.pmb_bus.specs.declared.event.Event.{Event}
use Rattle.pmb_bus.specs.declared.event.Event.TheVariants as wire
use Rattle.pmb_bus.specs.Address.{write_address, read_address}
use Rattle.pmb_transaction.specs.Packet.{acked, leg}
use Rattle.pmb_transaction.specs.Reason.{Whether}
use Rattle.pmb_registers.specs.declared.cml_bit.CmlBit.{CmlBit}
use Rattle.pmb_registers.specs.State.{DeviceState, InState}
use Rattle.pmb_registers.specs.Apply.{bit_of_answer}
use Rattle.pmb_registers.specs.Answer.{answer}
use Rattle.pmb_device.specs.declared.signal.HostSignal.{HostSignal}
use Rattle.pmb_device.specs.declared.signal.HostSignal.TheVariants.{Byte}
use Rattle.pmb_device.specs.declared.signal.DeviceSignal.{DeviceSignal}
use Rattle.pmb_device.specs.declared.signal.DeviceSignal.TheVariants as answers
use Rattle.pmb_device.specs.Legs.{Leg, Legs, Inside, sent, leg_place}
use Rattle.pmb_device.specs.Rules.{IsAsked, AnswersAddress, AnswersByte, IsRead, IsWritten, TakesByte, TakesAll}
use Rattle.pmb_device.specs.Rules.{taken_or_not, written, read, others}
use Rattle.pmb_leg.specs.declared.place.LegPlace.{LegPlace}
use Rattle.pmb_command.specs.Parts.{DeviceParts}
use Rattle.pmb_devices.specs.Bus.{AnswersOrSilent, BusAnswers, acknowledged}
use Rattle.pmb_devices.proofs.OwnLegs.{byte_leg, one_byte_more, sent_bytes}
use Rattle.pmb_devices.proofs.Parsing.{IsUnread, Stands, acknowledged_is, behind_byte, behind_start, closed}

-- an address for writing is none for reading
pub no_read_address : (a n : ℕ) → write_address a ≡ read_address n → ⊥
no_read_address a n same = omega arith

-- a leg that begins with an address for writing reads no device
pub unread_written : (addr : ℕ) (done : List ℕ) → IsUnread (byte_leg (write_address addr ∷ done))
unread_written addr done n bytes is =
    let same : write_address addr ≡ read_address n = cc is in
    no_read_address addr n same

unread_begun : IsUnread []
unread_begun n bytes is = cc is

-- bytes that a device takes, and one more
takes_more : (device : DeviceParts) (place : LegPlace) (taken bytes : List ℕ) (b : ℕ)
    → TakesAll device place taken bytes
    → TakesByte device place (taken ++ bytes) b → TakesAll device place taken (bytes ++ b ∷ [])
takes_more device place taken [] b all next =
    (subst (λ (bs : List ℕ). TakesByte device place bs b) (append-nil taken) next, tt)
takes_more device place taken (c ∷ bytes) b all next = (
  all.0,
  takes_more device place (taken ++ c ∷ []) bytes b all.1
      (subst (λ (bs : List ℕ). TakesByte device place bs b) (sym (append_assoc taken (c ∷ []) bytes)) next),
)

-- ---- a device that is read

-- it is asked with one body
same_asked : (device : DeviceParts) (earlier : List Leg) (body second : List ℕ) → IsAsked device earlier body
    → IsAsked device earlier second → body ≡ second
same_asked device earlier body second a b =
    let rows : a.first ∷ [] ≡ b.first ∷ [] = sym a.alone ∙ b.alone in
    let first : a.first ≡ b.first = cc rows in
    let bytes : write_address device.address ∷ body ≡ write_address device.address ∷ second = sym a.own ∙ ap sent first
    ∙ b.own in
    cc bytes

-- a device that is read is not silent
no_answer_silent : (device : DeviceParts) (r : Result (List ℕ) CmlBit) → answers.Silent ≡ taken_or_not device r → ⊥
no_answer_silent device (Ok reply) is = cc is
no_answer_silent device (Err bit) is = cc is

-- a device that gave ACK to be read refused nothing
no_bit : (device : DeviceParts) (r : Result (List ℕ) CmlBit) → answers.Ack ≡ taken_or_not device r
    → bit_of_answer r ≡ None
no_bit device (Ok reply) is = refl
no_bit device (Err bit) is = absurd (cc is)

-- so is the answer to its address for reading
no_silence : (device : DeviceParts) (state : DeviceState) (earlier : List Leg) (body : List ℕ)
    → IsRead device earlier (read_address device.address) body
    → AnswersAddress device state earlier (read_address device.address) answers.Silent → ⊥
no_silence device state earlier body is (written own ack) = cc ack
no_silence device state earlier body is (read other same taken) =
    no_answer_silent device (answer device state other) taken
no_silence device state earlier body is (others none nor silent) = nor body is

-- and an ACK to it means that it refused nothing
ack_to_read : (device : DeviceParts) (state : DeviceState) (earlier : List Leg) (body : List ℕ)
    → IsRead device earlier (read_address device.address) body
    → AnswersAddress device state earlier (read_address device.address) answers.Ack
    → bit_of_answer (answer device state body) ≡ None
ack_to_read device state earlier body is (written own ack) =
    absurd (no_read_address device.address device.address (sym own.own))
ack_to_read device state earlier body is (read other same taken) =
    ap (λ (bs : List ℕ). bit_of_answer (answer device state bs))
    (same_asked device earlier body other is.asked same.asked)
    ∙ no_bit device (answer device state other) taken
ack_to_read device state earlier body is (others none nor silent) = absurd (nor body is)

-- ---- runs of bytes

module _ (members : List InState) where
  -- each byte had ACK, after some of its leg
  abbrev pub Acked : List Leg → List ℕ → List ℕ → Type 0
  Acked earlier front [] = Unit {0}
  Acked earlier front (b ∷ bytes) =
      BusAnswers members (Inside earlier (byte_leg front)) (Byte b) answers.Ack × Acked earlier (front ++ b ∷ []) bytes

  module _ (final : Legs) where
    -- Bytes were sent after others of a leg that is written, and had ACK.
    pub record Ran (earlier : List Leg) (addr : ℕ) (done bytes : List ℕ) (rest : List Event) : Type 0 where
      -- each of the bytes had ACK,
      pub acked_are : Acked earlier (write_address addr ∷ done) bytes
      -- and after them the rest was recorded
      pub stands : Stands members final (Inside earlier (byte_leg (write_address addr ∷ done ++ bytes))) rest

    -- One byte more was sent, and the bus answered what was recorded.
    pub record OneRan (earlier : List Leg) (front : List ℕ) (b : ℕ) (event : Event) (rest : List Event) : Type 0 where
      -- what the bus answered,
      pub result : DeviceSignal
      -- and what was recorded of that
      pub answer : BusAnswers members (Inside earlier (byte_leg front)) (Byte b) result
      pub recorded_as : acknowledged result ≡ event
      pub stands : Stands members final (Inside earlier (byte_leg (front ++ b ∷ []))) rest

    -- one byte more of a leg that reads no device
    pub run_one : (earlier : List Leg) (front : List ℕ) (b : ℕ) (event : Event) (rest : List Event)
        → IsUnread (byte_leg front)
        → Stands members final (Inside earlier (byte_leg front)) (wire.Byte b ∷ event ∷ rest)
        → OneRan earlier front b event rest
    run_one earlier front b event rest unread stands =
        let one = behind_byte members final earlier (byte_leg front) b event rest unread stands in
        record {
          result = one.result;
          answer = one.answer;
          recorded_as = one.recorded_as;
          stands = subst (λ (l : Leg). Stands members final (Inside earlier l) rest) (one_byte_more front b) one.stands;
        }

    -- bytes of a leg that is written, each with ACK
    pub run : (earlier : List Leg) (addr : ℕ) (done bytes : List ℕ) (rest : List Event)
        → Stands members final (Inside earlier (byte_leg (write_address addr ∷ done))) (acked bytes ++ rest)
        → Ran earlier addr done bytes rest
    run earlier addr done [] rest stands = record {
      acked_are = tt;
      stands =
          subst (λ (bs : List ℕ). Stands members final (Inside earlier (byte_leg (write_address addr ∷ bs))) rest)
          (sym (append-nil done)) stands;
    }
    run earlier addr done (b ∷ bytes) rest stands =
        let one = run_one earlier (write_address addr ∷ done) b wire.Ack (acked bytes ++ rest)
        (unread_written addr done) stands in
        let later = run earlier addr (done ++ b ∷ []) bytes rest one.stands in
        let ack : one.result ≡ answers.Ack = acknowledged_is one.result one.recorded_as in
        record {
          acked_are = (
            subst (BusAnswers members (Inside earlier (byte_leg (write_address addr ∷ done))) (Byte b)) ack one.answer,
            later.acked_are,
          );
          stands =
              subst (λ (bs : List ℕ). Stands members final (Inside earlier (byte_leg (write_address addr ∷ bs))) rest)
              (append_assoc done (b ∷ []) bytes) later.stands;
        }

    -- a leg that begins
    pub run_address : (legs : Legs) (b : ℕ) (event : Event) (rest : List Event)
        → Stands members final legs (wire.Start ∷ wire.Byte b ∷ event ∷ rest)
        → OneRan (closed legs) [] b event rest
    run_address legs b event rest stands =
        run_one (closed legs) [] b event rest unread_begun
        (behind_start members final legs (wire.Byte b ∷ event ∷ rest) stands)

    -- a leg that is written
    pub run_leg : (legs : Legs) (addr : ℕ) (body : List ℕ) (rest : List Event)
        → Stands members final legs (leg (write_address addr ∷ body) ++ rest)
        → Ran (closed legs) addr [] body rest
    run_leg legs addr body rest stands =
        run (closed legs) addr [] body rest (run_address legs (write_address addr) wire.Ack
        (acked body ++ rest) stands).stands

  -- ---- what a member took

  module _ (member : InState) (in_bus : Contains members member) where
    -- what a member answers to a signal
    pub member_answers : (legs : Legs) (signal : HostSignal) (result : DeviceSignal)
        → BusAnswers members legs signal result
        → AnswersOrSilent legs signal result member
    member_answers legs signal result bus =
        All-contains (AnswersOrSilent legs signal result) members member
        (All-from_recursion (AnswersOrSilent legs signal result) members bus.each) in_bus

    -- The answer to a byte after bytes that the member took, in a leg that is written to it.
    answer_written : (earlier : List Leg) (address : ℕ) (bytes : List ℕ) (b : ℕ) (result : DeviceSignal)
        → IsWritten member.device earlier address
        → TakesAll member.device (leg_place earlier) [] bytes
        → AnswersByte member.device member.state earlier (sent (byte_leg (address ∷ bytes))) b result
        → Whether (TakesByte member.device (leg_place earlier) bytes b) (result ≡ answers.Ack) (result ≡ answers.Nack)
    answer_written earlier address bytes b result own taken answered =
        elim (subst (λ (bs : List ℕ). AnswersByte member.device member.state earlier (address ∷ bs) b result)
        (sent_bytes bytes) answered) [
          | inl here ↦ elim here.1 [ inl w ↦ w.1 | inr w ↦ absurd (w.0 taken) ]
          | inr other ↦ absurd (other.0 own)
        ]

    -- it took a byte that had ACK
    took_byte : (earlier : List Leg) (address : ℕ) (bytes : List ℕ) (b : ℕ) → IsWritten member.device earlier address
        → TakesAll member.device (leg_place earlier) [] bytes
        → BusAnswers members (Inside earlier (byte_leg (address ∷ bytes))) (Byte b) answers.Ack
        → TakesByte member.device (leg_place earlier) bytes b
    took_byte earlier address bytes b own taken bus =
        elim (member_answers (Inside earlier (byte_leg (address ∷ bytes))) (Byte b) answers.Ack bus) [
          | inl answered ↦ elim (answer_written earlier address bytes b answers.Ack own taken answered)
              [ inl w ↦ w.0 | inr w ↦ absurd (cc w.1) ]
          | inr silent ↦ elim (answer_written earlier address bytes b answers.Silent own taken silent)
              [ inl w ↦ absurd (cc w.1) | inr w ↦ absurd (cc w.1) ]
        ]

    -- It took each of the bytes that had ACK.
    pub took_all : (earlier : List Leg) (address : ℕ) (done bytes : List ℕ) → IsWritten member.device earlier address
        → TakesAll member.device (leg_place earlier) [] done → Acked earlier (address ∷ done) bytes
        → TakesAll member.device (leg_place earlier) done bytes
    took_all earlier address done [] own taken acks = tt
    took_all earlier address done (b ∷ bytes) own taken acks =
        let here = took_byte earlier address done b own taken acks.0 in (
          here,
          took_all earlier address (done ++ b ∷ []) bytes own
              (takes_more member.device (leg_place earlier) [] done b taken here) acks.1,
        )

    -- It did not take a byte that had NACK.
    pub refused_byte : (earlier : List Leg) (address : ℕ) (bytes : List ℕ) (b : ℕ) (result : DeviceSignal)
        → IsWritten member.device earlier address
        → TakesAll member.device (leg_place earlier) [] bytes
        → BusAnswers members (Inside earlier (byte_leg (address ∷ bytes))) (Byte b) result
        → acknowledged result ≡ wire.Nack
        → TakesByte member.device (leg_place earlier) bytes b → ⊥
    refused_byte earlier address bytes b result own taken bus nack takes =
        elim (member_answers (Inside earlier (byte_leg (address ∷ bytes))) (Byte b) result bus) [
          | inl answered ↦
              elim (answer_written earlier address bytes b result own taken answered) [
                | inl w ↦
                    let ack : acknowledged result ≡ wire.Ack = ap acknowledged w.1 in
                    cc (ack, nack)
                | inr w ↦ absurd (w.0 takes)
              ]
          | inr silent ↦
              elim (answer_written earlier address bytes b answers.Silent own taken silent)
              [ inl w ↦ cc w.1 | inr w ↦ absurd (w.0 takes) ]
        ]

    -- ---- its address for reading

    -- Where the member is read and ACK was given, it did not refuse.
    pub read_taken : (earlier : List Leg) (body : List ℕ)
        → IsRead member.device earlier (read_address member.device.address) body
        → BusAnswers members (Inside earlier []) (Byte (read_address member.device.address)) answers.Ack
        → bit_of_answer (answer member.device member.state body) ≡ None
    read_taken earlier body is bus =
        let address = read_address member.device.address in
        elim (member_answers (Inside earlier []) (Byte address) answers.Ack bus) [
          | inl answered ↦ ack_to_read member.device member.state earlier body is answered
          | inr silent ↦ absurd (no_silence member.device member.state earlier body is silent)
        ]
