-- An event that is refused has one reason at most, and never `Truncated`. For the laws
-- `refused_events_have_a_reason` and `one_reading`. Where ACK is refused, the events after the last
-- START tell the reason (`told`), so two reasons for the same events are the same.
use Rattle.std.proofs.Common.{◌≡◌, ◌≢◌, ◌%◌, ◌==◌, inl, inr, Bool, false, if◌then◌else◌, List, [], ◌∷◌, ◌++◌, refl, sym}
use Rattle.std.proofs.Common.{ap, ◌∙◌, append_assoc}
use Rattle.std.proofs.lemmas.List.{same_from_push}
use Rattle.pmb_bus.specs.declared.event.Event.{Event}
use Rattle.pmb_bus.specs.declared.event.Event.TheVariants.{Start, Byte, Ack, Nack, Stop}
use Rattle.pmb_bus.specs.Address.{write_address, read_address}
use Rattle.pmb_command.specs.Parts.{DeviceParts}
use Rattle.pmb_transaction.specs.declared.reason.Reason.{Reason}
use Rattle.pmb_transaction.specs.declared.reason.Reason.TheVariants.{UnknownDevice, UnknownCommand, BadPec, TooLong}
use Rattle.pmb_transaction.specs.declared.reason.Reason.TheVariants.{Truncated, WrongEvent}
use Rattle.pmb_transaction.specs.Packet.{acked, leg}
use Rattle.pmb_transaction.specs.Reason.{ByteReason, read_first, bad_restart, bad_pec_sent, AckReason, unknown_device}
use Rattle.pmb_transaction.specs.Reason.{unknown_command, bad_pec_taken, too_long, NackReason, too_short, IsReason}
use Rattle.pmb_transaction.specs.Reason.{Whether}
use Rattle.pmb_transaction.proofs.Starts.{has_start, no_start-sent, same_last_start}
use Rattle.pmb_transaction.proofs.Telling.{is_write-read, is_write-write}

-- ---- a byte

same_end : (a b events : List Event) (x y : Event) → events ≡ a ++ x ∷ [] → events ≡ b ++ y ∷ [] → (a ≡ b) × (x ≡ y)
same_end a b events x y first second = same_from_push a b x y (sym first ∙ second)

one_byte_reason : (events : List Event) (r s : Reason) → ByteReason events r → ByteReason events s → r ≡ s
one_byte_reason events r s (read_first is) (read_first also) = refl
one_byte_reason events r s (read_first is) (bad_restart front some also) =
    absurd (some (sym (same_end [] front events Start Start is also).0))
one_byte_reason events r s (read_first is) (bad_pec_sent front also) =
    absurd (cc ((same_end [] front events Start Ack is also).1))
one_byte_reason events r s (bad_restart front some is) (read_first also) =
    absurd (some (same_end front [] events Start Start is also).0)
one_byte_reason events r s (bad_restart front some is) (bad_restart other others also) = refl
one_byte_reason events r s (bad_restart front some is) (bad_pec_sent other also) =
    absurd (cc ((same_end front other events Start Ack is also).1))
one_byte_reason events r s (bad_pec_sent front is) (read_first also) =
    absurd (cc ((same_end front [] events Ack Start is also).1))
one_byte_reason events r s (bad_pec_sent front is) (bad_restart other others also) =
    absurd (cc ((same_end front other events Ack Start is also).1))
one_byte_reason events r s (bad_pec_sent front is) (bad_pec_sent other also) = refl

-- ---- ACK

-- what the events after the last START tell of it
told_written : List Event → Reason
told_written [] = WrongEvent
told_written (event ∷ []) = UnknownCommand
told_written (event ∷ next ∷ events) = BadPec

abbrev told : List Event → Reason
told [] = WrongEvent
told (Byte b ∷ []) = UnknownDevice
told (Byte b ∷ event ∷ events) = if b % 2 == 0 then told_written events else TooLong
told (Start ∷ events) = WrongEvent
told (Ack ∷ events) = WrongEvent
told (Nack ∷ events) = WrongEvent
told (Stop ∷ events) = WrongEvent

-- the events up to the last START, those after it, and the reason that these tell
record Told (events : List Event) (reason : Reason) : Type 0 where
  -- up to the last START, and after it
  pub front : List Event
  pub own : List Event
  pub none : has_start own ≡ false
  pub split : events ≡ front ++ Start ∷ own
  -- the reason that the latter tell
  pub is : told own ≡ reason

ack_told : (events : List Event) (reason : Reason) → AckReason events reason → Told events reason
unfolding told_written
ack_told events reason (unknown_device front addr is) =
    record { front = front; own = Byte (write_address addr) ∷ []; none = refl; split = is; is = refl }
ack_told events reason (unknown_command front addr code is) = record {
  front = front;
  own = acked (write_address addr ∷ []) ++ Byte code ∷ [];
  none = refl;
  split = is ∙ append_assoc front (leg (write_address addr ∷ [])) (Byte code ∷ []);
  is = ap (λ (b : Bool). if b then UnknownCommand else TooLong) (is_write-write addr);
}
ack_told events reason (bad_pec_taken front addr code bytes byte is) = record {
  front = front;
  own = acked (write_address addr ∷ code ∷ bytes) ++ Byte byte ∷ [];
  none = no_start-sent bytes byte;
  split = is ∙ append_assoc front (leg (write_address addr ∷ code ∷ bytes)) (Byte byte ∷ []);
  is = ap (λ (b : Bool). if b then BadPec else TooLong) (is_write-write addr);
}
ack_told events reason (too_long front addr bytes byte is) = record {
  front = front;
  own = acked (read_address addr ∷ bytes) ++ Byte byte ∷ [];
  none = no_start-sent bytes byte;
  split = is ∙ append_assoc front (leg (read_address addr ∷ bytes)) (Byte byte ∷ []);
  is = ap (λ (b : Bool). if b then told_written (acked bytes ++ Byte byte ∷ []) else TooLong) (is_write-read addr);
}

one_ack_reason : (events : List Event) (r s : Reason) → AckReason events r → AckReason events s → r ≡ s
one_ack_reason events r s first second =
    let x = ack_told events r first in
    let y = ack_told events s second in
    let same = same_last_start x.front y.front x.own y.own x.none y.none (sym x.split ∙ y.split) in
    sym x.is ∙ ap told same.1 ∙ y.is

-- ---- NACK

one_nack_reason : (events : List Event) (r s : Reason) → NackReason events r → NackReason events s → r ≡ s
one_nack_reason events r s (too_short front addr bytes byte is) (too_short other address others last also) = refl

-- ---- each event

one_of_two : (Holds : Type 0) (Told : Reason → Type 0) (r s : Reason) → (Told r → Told s → r ≡ s)
    → Whether Holds (Told r) (r ≡ WrongEvent)
    → Whether Holds (Told s) (s ≡ WrongEvent) → r ≡ s
one_of_two Holds Told r s one (inl a) (inl b) = one a.1 b.1
one_of_two Holds Told r s one (inl a) (inr b) = absurd (b.0 a.0)
one_of_two Holds Told r s one (inr a) (inl b) = absurd (a.0 b.0)
one_of_two Holds Told r s one (inr a) (inr b) = a.1 ∙ sym b.1

module _ (profile : List DeviceParts) where
  pub one_reason : (events : List Event) (event : Event) (r s : Reason) → IsReason profile events event r
      → IsReason profile events event s → r ≡ s
  one_reason events Start r s first second = first ∙ sym second
  one_reason events Stop r s first second = first ∙ sym second
  one_reason events (Byte b) r s first second = one_of_two _ (ByteReason events) r s
      (one_byte_reason events r s) first second
  one_reason events Ack r s first second = one_of_two _ (AckReason events) r s (one_ack_reason events r s) first second
  one_reason events Nack r s first second = one_of_two _ (NackReason events) r s
      (one_nack_reason events r s) first second

  -- ---- no truncation

  pub no_truncation : (events : List Event) (event : Event) (reason : Reason) → IsReason profile events event reason
      → reason ≢ Truncated
  no_truncation events Start reason wrong is = cc (sym wrong ∙ is)
  no_truncation events Stop reason wrong is = cc (sym wrong ∙ is)
  no_truncation events (Byte b) reason (inl (some, read_first at)) is = cc is
  no_truncation events (Byte b) reason (inl (some, bad_restart front others at)) is = cc is
  no_truncation events (Byte b) reason (inl (some, bad_pec_sent front at)) is = cc is
  no_truncation events (Byte b) reason (inr w) is = cc (sym w.1 ∙ is)
  no_truncation events Ack reason (inl (alone, unknown_device front addr at)) is = cc is
  no_truncation events Ack reason (inl (alone, unknown_command front addr code at)) is = cc is
  no_truncation events Ack reason (inl (alone, bad_pec_taken front addr code bytes byte at)) is = cc is
  no_truncation events Ack reason (inl (alone, too_long front addr bytes byte at)) is = cc is
  no_truncation events Ack reason (inr w) is = cc (sym w.1 ∙ is)
  no_truncation events Nack reason (inl (alone, too_short front addr bytes byte at)) is = cc is
  no_truncation events Nack reason (inr w) is = cc (sym w.1 ∙ is)
