-- Why an event may not come, by the place where the events end. For `reason` of `src/reason.rt` and
-- what it calls (`byte_reason`, `ack_reason`, `taken_reason`, `reason_of_ack`, `reason_of_nack`).
-- Each place names the last event; where another kind alone may follow, the place tells the one
-- reason that is drawn for such an end.
use Rattle.std.proofs.Common.{◌≡◌, ◌≢◌, ℕ, ◌<◌, ◌≤◌, ◌⊎◌, inl, inr, Bool, true, false, Some, List, [], ◌∷◌, ◌++◌}
use Rattle.std.proofs.Common.{length, refl, sym, ap, subst, ◌∙◌, arith, append_assoc, bit_and, ◌==◌}
use Rattle.std.proofs.lemmas.List.{same_from_push}
use Rattle.pmb_bus.specs.declared.event.Event.{Event}
use Rattle.pmb_bus.specs.declared.event.Event.TheVariants.{Byte, Ack, Nack, Stop}
use Rattle.pmb_bus.specs.declared.event.Event.TheVariants as events_are
use Rattle.pmb_bus.specs.declared.kinds.Kinds.{Kinds}
use Rattle.pmb_bus.specs.Kinds.{AreKindsOf, bits, holds, kind_of}
use Rattle.pmb_bus.specs.Address.{write_address, read_address, alert_address}
use Rattle.pmb_command.specs.Bus.{IsBus}
use Rattle.pmb_command.specs.Parts.{DeviceParts, device_with}
use Rattle.pmb_transaction.specs.declared.reason.Reason.{Reason}
use Rattle.pmb_transaction.specs.declared.reason.Reason.TheVariants.{BadPec, BadRestart, UnknownCommand}
use Rattle.pmb_transaction.specs.Body.{IsRequest}
use Rattle.pmb_transaction.specs.Packet.{leg}
use Rattle.pmb_transaction.specs.Capture.{MayFollow}
use Rattle.pmb_transaction.specs.Reason.{FollowsAlone, SomeByteMayFollow, ByteReason, read_first, bad_restart}
use Rattle.pmb_transaction.specs.Reason.{bad_pec_sent, AckReason, unknown_command, bad_pec_taken}
use Rattle.pmb_packet_state.specs.declared.packet_state.PacketPlace.{PacketPlace}
use Rattle.pmb_packet_state.specs.declared.packet_state.PacketPlace.TheVariants.{Between, Start, Address, Leg, LegByte}
use Rattle.pmb_packet_state.specs.declared.packet_state.PacketPlace.TheVariants.{Restart, ReadAddress, Answer}
use Rattle.pmb_packet_state.specs.declared.packet_state.PacketPlace.TheVariants.{AnswerByte, End}
use Rattle.pmb_packet_state.specs.declared.packet_state.Answerer.{Answerer}
use Rattle.pmb_packet_state.specs.declared.packet_state.Answerer.TheVariants as sources
use Rattle.pmb_packet_state.specs.declared.packet_state.PacketState.{PacketState}
use Rattle.pmb_packet_state.specs.machine.PacketState.{AtReadAddress, BehindByte, BehindStart, IsPacketPlace}
use Rattle.pmb_packet_state.proofs.Steps.{EndsWith, TakeTurns, not_its_turn}
use Rattle.pmb_packet_state.proofs.WrittenLegs.{byte_ends, in_leg_ends, start_ends}
use Rattle.pmb_packet_state.proofs.AnsweredLegs.{asked_with, in_answer_ends}

-- ---- which place it is

abbrev late : PacketPlace → Bool
late Between = false
late Start = false
late (Address addr) = true
late Leg = true
late (LegByte byte) = true
late Restart = false
late (ReadAddress source) = true
late (Answer source) = true
late (AnswerByte source) = true
late End = true

pub late_here : (place : PacketPlace)
    → ((a : ℕ) × (place ≡ Address a))
    ⊎ ((place ≡ Leg) ⊎ (((b : ℕ) × (place ≡ LegByte b))
    ⊎ (((s : Answerer) × (place ≡ ReadAddress s))
    ⊎ (((s : Answerer) × (place ≡ Answer s)) ⊎ (((s : Answerer) × (place ≡ AnswerByte s)) ⊎ (place ≡ End))))))
    → late place ≡ true
late_here place (inl is) = ap late is.1
late_here place (inr (inl is)) = ap late is
late_here place (inr (inr (inl is))) = ap late is.1
late_here place (inr (inr (inr (inl is)))) = ap late is.1
late_here place (inr (inr (inr (inr (inl is))))) = ap late is.1
late_here place (inr (inr (inr (inr (inr (inl is)))))) = ap late is.1
late_here place (inr (inr (inr (inr (inr (inr is)))))) = ap late is

-- ---- a byte

-- events that end with another one than START
record EndsElsewhere (events : List Event) : Type 0 where
  pub last : Event
  -- the last event is no START
  pub other : last ≢ events_are.Start
  pub ends : EndsWith events last

-- So they end after the first byte of a leg.
ends_late : (profile : List DeviceParts) (u : PacketState) (place : PacketPlace) (events : List Event)
    → late place ≡ true → IsPacketPlace place profile u events
    → EndsElsewhere events
ends_late profile u Between events is here = absurd (cc is)
ends_late profile u Start events is here = absurd (cc is)
ends_late profile u Restart events is here = absurd (cc is)
-- at an address byte
ends_late profile u (Address addr) events is here = record {
  last = Byte (write_address addr);
  other = λ same. cc same;
  ends = record {
    front = here.legs ++ events_are.Start ∷ [];
    split = here.spelled
        ∙ sym (append_assoc here.legs (events_are.Start ∷ []) (Byte (write_address addr) ∷ []));
  };
}
-- after a byte of a written leg that was taken, and after one without an answer
ends_late profile u Leg events is here =
    record {
      last = Ack;
      other = λ same. cc same;
      ends =
          in_leg_ends profile u.kept here.written here.parts events here.leg;
    }
ends_late profile u (LegByte byte) events is here =
    record { last = Byte byte; other = λ same. cc same; ends = byte_ends profile u byte events here }
-- at a read address, after a byte that was read, and after one without an answer
ends_late profile u (ReadAddress source) events is here = record {
  last = Byte (read_address here.addr);
  other = λ same. cc same;
  ends =
      record {
        front = here.front ++ events_are.Start ∷ [];
        split = here.spelled
            ∙ sym (append_assoc here.front (events_are.Start ∷ []) (Byte (read_address here.addr) ∷ []));
      };
}
ends_late profile u (Answer source) events is here =
    record { last = Ack; other = λ same. cc same; ends = in_answer_ends profile u source events here }
ends_late profile u (AnswerByte source) events is here =
    record {
      last = Byte here.byte;
      other = λ same. cc same;
      ends =
          record { front = here.front ++ leg (read_address here.addr ∷ here.bytes); split = here.spelled };
    }
ends_late profile u End events is here =
    record { last = Nack; other = λ same. cc same; ends = record { front = here.front; split = here.spelled } }

-- Where they do, the reason of a byte tells no START.
no_start : (events : List Event) (reason : Reason) → EndsElsewhere events → ByteReason events reason
    → ByteReason events BadPec
no_start events reason end (read_first is) =
    absurd (end.other (same_from_push end.ends.front [] end.last events_are.Start (sym end.ends.split ∙ is)).1)
no_start events reason end (bad_restart front some is) =
    absurd (end.other (same_from_push end.ends.front front end.last events_are.Start (sym end.ends.split ∙ is)).1)
no_start events reason end (bad_pec_sent front is) = bad_pec_sent front is

-- A byte that has a reason there is a wrong packet error code.
pub bad_pec_late : (profile : List DeviceParts) (u : PacketState) (place : PacketPlace) (events : List Event)
    → late place ≡ true → IsPacketPlace place profile u events
    → (reason : Reason) × ByteReason events reason → ByteReason events BadPec
bad_pec_late profile u place events is here told =
    no_start events told.0 (ends_late profile u place events is here) told.1

-- Between packets none may follow.
pub none_between : (profile : List DeviceParts) (events : List Event)
    → ((event : Event) → MayFollow profile [] event → event ≡ events_are.Start) → events ≡ []
    → SomeByteMayFollow profile events → ⊥
none_between profile events begins is some =
    cc (begins (Byte some.0) (subst (λ (es : List Event). MayFollow profile es (Byte some.0)) is some.1))

not_nothing : (front : List Event) (event : Event) (rest : List Event) → front ++ event ∷ rest ≢ []
not_nothing [] event rest same = cc same
not_nothing (e ∷ front) event rest same = cc same

-- After a written leg and START it is a bad restart.
pub restart_is_bad : (profile : List DeviceParts) (u : PacketState) (events : List Event) → BehindStart profile u events
    → ByteReason events BadRestart
restart_is_bad profile u events at =
    bad_restart at.front (λ none. not_nothing at.leg.legs events_are.Start _ (sym at.leg.spelled ∙ none)) at.spelled

-- ---- ACK

abbrev plain : PacketPlace → Bool
plain Between = true
plain Start = true
plain (Address addr) = false
plain Leg = true
plain (LegByte byte) = false
plain Restart = true
plain (ReadAddress source) = true
plain (Answer source) = true
plain (AnswerByte source) = false
plain End = true

pub plain_here : (place : PacketPlace)
    → (place ≡ Between) ⊎ ((place ≡ Start) ⊎
    ((place ≡ Leg) ⊎ ((place ≡ Restart) ⊎ (((s : Answerer) × (place ≡ ReadAddress s))
    ⊎ (((s : Answerer) × (place ≡ Answer s)) ⊎ (place ≡ End))))))
    → plain place ≡ true
plain_here place (inl is) = ap plain is
plain_here place (inr (inl is)) = ap plain is
plain_here place (inr (inr (inl is))) = ap plain is
plain_here place (inr (inr (inr (inl is)))) = ap plain is
plain_here place (inr (inr (inr (inr (inl is))))) = ap plain is.1
plain_here place (inr (inr (inr (inr (inr (inl is)))))) = ap plain is.1
plain_here place (inr (inr (inr (inr (inr (inr is)))))) = ap plain is

-- where a device is to be read ACK may follow, and NACK
pub read_may_be_answered : (answer : Event) (profile : List DeviceParts) → IsBus profile
    → (u : PacketState) (source : Answerer) (events : List Event)
    → ((addr : ℕ) (device : DeviceParts) (body : List ℕ) → IsBus profile → device_with addr profile ≡ Some device
    → IsRequest device body
    → MayFollow profile (leg (write_address addr ∷ body) ++ events_are.Start ∷ Byte (read_address addr) ∷ []) answer)
    → MayFollow profile (events_are.Start ∷ Byte (read_address alert_address) ∷ []) answer
    → AtReadAddress profile u source events → MayFollow profile events answer
read_may_be_answered answer profile bus u sources.Device events device alert here =
    subst (λ (es : List Event). MayFollow profile es answer) (sym (asked_with profile u events here))
    (device here.asked.written.device.address here.asked.written.device here.asked.written.bytes bus here.asked.known
    here.asked.request)
read_may_be_answered answer profile bus u sources.Alert events device alert here =
    subst (λ (es : List Event). MayFollow profile es answer)
    (sym (here.spelled ∙ ap (λ (es : List Event). es ++ events_are.Start ∷ Byte (read_address here.addr) ∷ [])
    here.asked.0 ∙ ap (λ (a : ℕ). events_are.Start ∷ Byte (read_address a) ∷ []) here.asked.1)) alert

pub ack_elsewhere : (turns : TakeTurns) (profile : List DeviceParts) (begins : (event : Event)
    → MayFollow profile [] event → event ≡ events_are.Start)
    → IsBus profile
    → ((addr : ℕ) (device : DeviceParts) (body : List ℕ) → IsBus profile → device_with addr profile ≡ Some device
    → IsRequest device body
    → MayFollow profile (leg (write_address addr ∷ body) ++ events_are.Start ∷ Byte (read_address addr) ∷ []) Ack)
    → MayFollow profile (events_are.Start ∷ Byte (read_address alert_address) ∷ []) Ack
    → (u : PacketState) (place : PacketPlace) (events : List Event) → plain place ≡ true
    → IsPacketPlace place profile u events → FollowsAlone profile events Nack → ⊥
-- between packets START alone may follow
ack_elsewhere turns profile begins bus device alert u Between events is here alone =
    cc (begins Nack (subst (λ (es : List Event). MayFollow profile es Nack) here alone.follows))
-- elsewhere NACK has no turn,
ack_elsewhere turns profile begins bus device alert u Start events is here alone =
    not_its_turn turns profile events events_are.Start Nack (record { front = []; split = here.0 }) refl alone.follows
ack_elsewhere turns profile begins bus device alert u (Address addr) events is here alone = cc is
ack_elsewhere turns profile begins bus device alert u Leg events is here alone =
    not_its_turn turns profile events Ack Nack (in_leg_ends profile u.kept here.written here.parts events here.leg) refl
    alone.follows
ack_elsewhere turns profile begins bus device alert u (LegByte byte) events is here alone = cc is
ack_elsewhere turns profile begins bus device alert u Restart events is here alone =
    not_its_turn turns profile events events_are.Start Nack (start_ends profile u events here) refl alone.follows
-- and at a read address ACK may follow too
ack_elsewhere turns profile begins bus device alert u (ReadAddress source) events is here alone =
    cc (alone.alone Ack (read_may_be_answered Ack profile bus u source events device alert here))
ack_elsewhere turns profile begins bus device alert u (Answer source) events is here alone =
    not_its_turn turns profile events Ack Nack (in_answer_ends profile u source events here) refl alone.follows
ack_elsewhere turns profile begins bus device alert u (AnswerByte source) events is here alone = cc is
ack_elsewhere turns profile begins bus device alert u End events is here alone =
    not_its_turn turns profile events Nack Nack (record { front = here.front; split = here.spelled }) refl alone.follows

-- ---- ACK of a byte of a written leg

-- the first after the address
at_code : (events legs : List Event) (addr : ℕ) (bytes : List ℕ) (byte : ℕ)
    → events ≡ (legs ++ leg (write_address addr ∷ bytes)) ++ Byte byte ∷ [] → length bytes ≤ 0
    → AckReason events UnknownCommand
at_code events legs addr [] byte is none = unknown_command legs addr byte is
at_code events legs addr (c ∷ bytes) byte is none = absurd (omega (arith, none))

-- a later one
further_on : (events legs : List Event) (addr : ℕ) (bytes : List ℕ) (byte : ℕ)
    → events ≡ (legs ++ leg (write_address addr ∷ bytes)) ++ Byte byte ∷ [] → 0 < length bytes
    → AckReason events BadPec
further_on events legs addr [] byte is some = absurd (omega (arith, some))
further_on events legs addr (c ∷ bytes) byte is some = bad_pec_taken legs addr c bytes byte is

-- the events that end with it, by what is kept
byte_of_leg : (profile : List DeviceParts) (u : PacketState) (byte : ℕ) (events : List Event)
    (at : BehindByte profile u byte events)
    → events ≡ (at.leg.legs ++ leg (write_address at.written.device.address ∷ at.written.bytes)) ++ Byte byte ∷ []
byte_of_leg profile u byte events at = at.spelled ∙ ap (λ (es : List Event). es ++ Byte byte ∷ []) at.leg.spelled

pub code_is_unknown : (profile : List DeviceParts) (u : PacketState) (byte : ℕ) (events : List Event)
    (at : BehindByte profile u byte events)
    → length at.written.bytes ≤ 0 → AckReason events UnknownCommand
code_is_unknown profile u byte events at = at_code events at.leg.legs at.written.device.address at.written.bytes byte
    (byte_of_leg profile u byte events at)

pub pec_is_wrong : (profile : List DeviceParts) (u : PacketState) (byte : ℕ) (events : List Event)
    (at : BehindByte profile u byte events)
    → 0 < length at.written.bytes → AckReason events BadPec
pec_is_wrong profile u byte events at = further_on events at.leg.legs at.written.device.address at.written.bytes byte
    (byte_of_leg profile u byte events at)

-- ---- kinds tell reasons

byte_of_kind : (event : Event) → kind_of event ≡ 2 → (b : ℕ) × (event ≡ Byte b)
byte_of_kind events_are.Start is = absurd (cc is)
byte_of_kind (Byte b) is = (b, refl)
byte_of_kind Ack is = absurd (cc is)
byte_of_kind Nack is = absurd (cc is)
byte_of_kind Stop is = absurd (cc is)

ack_of_kind : (event : Event) → kind_of event ≡ 4 → event ≡ Ack
ack_of_kind events_are.Start is = absurd (cc is)
ack_of_kind (Byte b) is = absurd (cc is)
ack_of_kind Ack is = refl
ack_of_kind Nack is = absurd (cc is)
ack_of_kind Stop is = absurd (cc is)

nack_of_kind : (event : Event) → kind_of event ≡ 8 → event ≡ Nack
nack_of_kind events_are.Start is = absurd (cc is)
nack_of_kind (Byte b) is = absurd (cc is)
nack_of_kind Ack is = absurd (cc is)
nack_of_kind Nack is = refl
nack_of_kind Stop is = absurd (cc is)

-- events of a set of one kind are of that kind
only_acks : (event : Event) (kinds : Kinds) → bits kinds ≡ 4 → holds kinds event ≡ true → event ≡ Ack
only_acks events_are.Start kinds is held = absurd (cc (subst (λ (n : ℕ). (bit_and n 1 == 1) ≡ true) is held))
only_acks (Byte b) kinds is held = absurd (cc (subst (λ (n : ℕ). (bit_and n 2 == 2) ≡ true) is held))
only_acks Ack kinds is held = refl
only_acks Nack kinds is held = absurd (cc (subst (λ (n : ℕ). (bit_and n 8 == 8) ≡ true) is held))
only_acks Stop kinds is held = absurd (cc (subst (λ (n : ℕ). (bit_and n 16 == 16) ≡ true) is held))

only_nacks : (event : Event) (kinds : Kinds) → bits kinds ≡ 8 → holds kinds event ≡ true → event ≡ Nack
only_nacks events_are.Start kinds is held = absurd (cc (subst (λ (n : ℕ). (bit_and n 1 == 1) ≡ true) is held))
only_nacks (Byte b) kinds is held = absurd (cc (subst (λ (n : ℕ). (bit_and n 2 == 2) ≡ true) is held))
only_nacks Ack kinds is held = absurd (cc (subst (λ (n : ℕ). (bit_and n 4 == 4) ≡ true) is held))
only_nacks Nack kinds is held = refl
only_nacks Stop kinds is held = absurd (cc (subst (λ (n : ℕ). (bit_and n 16 == 16) ≡ true) is held))

module _ (profile : List DeviceParts) (events : List Event) (kinds : Kinds)
    (are : AreKindsOf (MayFollow profile events) kinds) where
  pub some_byte : (b : ℕ) → holds kinds (Byte b) ≡ true → SomeByteMayFollow profile events
  some_byte b is =
      let other = are.only (Byte b) is in
      let byte = byte_of_kind other.0 other.1 in
      (byte.0, subst (MayFollow profile events) byte.1 other.2)

  pub no_byte : (b : ℕ) → (holds kinds (Byte b) ≡ true → ⊥) → SomeByteMayFollow profile events → ⊥
  no_byte b none some = none (are.each (Byte some.0) some.1)

  pub ack_alone : bits kinds ≡ 4 → FollowsAlone profile events Ack
  ack_alone is =
      let other = are.only Ack (subst (λ (n : ℕ). (bit_and n 4 == 4) ≡ true) (sym is) refl) in record {
        follows = subst (MayFollow profile events) (ack_of_kind other.0 other.1) other.2;
        alone = λ event follows. only_acks event kinds is (are.each event follows);
      }

  pub nack_alone : bits kinds ≡ 8 → FollowsAlone profile events Nack
  nack_alone is =
      let other = are.only Nack (subst (λ (n : ℕ). (bit_and n 8 == 8) ≡ true) (sym is) refl) in record {
        follows = subst (MayFollow profile events) (nack_of_kind other.0 other.1) other.2;
        alone = λ event follows. only_nacks event kinds is (are.each event follows);
      }

-- ---- a set of one kind

not_held : (holds_it : Bool) → (holds_it ≡ true → ⊥) → holds_it ≡ false
not_held true none = absurd (none refl)
not_held false none = refl

module _ (profile : List DeviceParts) (events : List Event) (kinds : Kinds)
    (are : AreKindsOf (MayFollow profile events) kinds) (told : (a b : Kinds) → bits a < 32 → bits b < 32
    → ((event : Event) → holds a event ≡ holds b event) → a ≡ b) where
  has_none : (one event : Event) → FollowsAlone profile events one → (kind_of one ≡ kind_of event → ⊥)
      → holds kinds event ≡ false
  has_none one event alone differ =
      not_held (holds kinds event)
      (λ held.
      let other = are.only event held in
      differ (ap (λ (e : Event). kind_of e) (sym (alone.alone other.0 other.2)) ∙ other.1))

  pub ack_bits : FollowsAlone profile events Ack → bits kinds ≡ 4
  ack_bits alone = ap (λ (k : Kinds). bits k) (told kinds (record { 0 = 4 }) are.known (omega arith) each) where
    each : (event : Event) → holds kinds event ≡ holds (record { 0 = 4 }) event
    each events_are.Start = has_none Ack events_are.Start alone (λ same. cc same)
    each (Byte b) = has_none Ack (Byte b) alone (λ same. cc same)
    each Ack = are.each Ack alone.follows
    each Nack = has_none Ack Nack alone (λ same. cc same)
    each Stop = has_none Ack Stop alone (λ same. cc same)

  pub nack_bits : FollowsAlone profile events Nack → bits kinds ≡ 8
  nack_bits alone = ap (λ (k : Kinds). bits k) (told kinds (record { 0 = 8 }) are.known (omega arith) each) where
    each : (event : Event) → holds kinds event ≡ holds (record { 0 = 8 }) event
    each events_are.Start = has_none Nack events_are.Start alone (λ same. cc same)
    each (Byte b) = has_none Nack (Byte b) alone (λ same. cc same)
    each Ack = has_none Nack Ack alone (λ same. cc same)
    each Nack = are.each Nack alone.follows
    each Stop = has_none Nack Stop alone (λ same. cc same)
