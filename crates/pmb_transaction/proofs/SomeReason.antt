-- A refused event in whose place another one may come has a reason: the events before it end as
-- that reason is drawn in specs/Reason. For the law `refused_events_have_a_reason`. Where ACK or
-- NACK is refused, the events end with a byte, in one of four ways (`AfterByte`), and each way is
-- one reason or lets the answer follow.
use Rattle.std.proofs.Common.{◌≡◌, ◌≢◌, ℕ, ◌<◌, true, List, [], ◌∷◌, ◌++◌, refl, sym, ap, ◌∙◌, subst, append_assoc}
use Rattle.std.proofs.lemmas.List.{same_from_push}
use Rattle.pmb_bus.specs.Pec.{pec}
use Rattle.pmb_bus.specs.declared.event.Event.{Event}
use Rattle.pmb_bus.specs.declared.event.Event.TheVariants.{Start, Byte, Ack, Nack, Stop}
use Rattle.pmb_bus.specs.Address.{write_address, read_address, alert_address}
use Rattle.pmb_command.specs.Bus.{IsBus}
use Rattle.pmb_command.specs.Parts.{DeviceParts}
use Rattle.pmb_transaction.specs.declared.reason.Reason.{Reason}
use Rattle.pmb_transaction.specs.declared.reason.Reason.TheVariants.{ReadFirst, BadRestart, BadPec, UnknownDevice}
use Rattle.pmb_transaction.specs.declared.reason.Reason.TheVariants.{UnknownCommand, TooLong, TooShort}
use Rattle.pmb_transaction.specs.Packet.{leg}
use Rattle.pmb_transaction.specs.Capture.{IsPacket, MayFollow}
use Rattle.pmb_transaction.specs.Reason.{ByteReason, read_first, bad_restart, bad_pec_sent, AckReason, unknown_device}
use Rattle.pmb_transaction.specs.Reason.{unknown_command, bad_pec_taken, too_long, NackReason, too_short, FollowsAlone}
use Rattle.pmb_transaction.specs.Reason.{SomeByteMayFollow}
use Rattle.pmb_transaction.specs.Turns.{follows_in_turn}
use Rattle.pmb_transaction.specs.Viable.{AlertBegins, AnswerBegins, IsBeginning, LegBegins, PartsAndLeg, ReadBegins}
use Rattle.pmb_transaction.specs.Viable.{alert, alert_answer, answer_sent, answer_taken, at_alert, before_stop}
use Rattle.pmb_transaction.specs.Viable.{leg_address, leg_sent, leg_start, leg_taken, read, read_address_sent}
use Rattle.pmb_transaction.specs.Viable.{read_answer, read_start, whole, written}
use Rattle.pmb_transaction.proofs.AddressBytes.{nack_follows}
use Rattle.pmb_transaction.proofs.Alerts as alerts
use Rattle.pmb_transaction.proofs.Beginnings.{viable_is_beginning}
use Rattle.pmb_transaction.proofs.Ends.{ends_behind, ends_with}
use Rattle.pmb_transaction.proofs.FirstEvents.{first_is_start}
use Rattle.pmb_transaction.proofs.Readings.{front_is_viable}
use Rattle.pmb_transaction.proofs.Replies as replies
use Rattle.pmb_transaction.proofs.Starts.{ends_taken}
use Rattle.pmb_transaction.proofs.Turns.{events_take_turns}
use Rattle.pmb_transaction.proofs.WrittenLegs.{refusal_follows}

-- ---- the last event

-- Events, by the last one and those before it.
record HasLast (events : List Event) : Type 0 where
  pub front : List Event
  pub last : Event
  pub split : events ≡ front ++ last ∷ []

last_of : (event : Event) (events : List Event) → HasLast (event ∷ events)
last_of event [] = record { front = []; last = event; split = refl }
last_of event (next ∷ events) =
    let later = last_of next events in
    record { front = event ∷ later.front; last = later.last; split = ap (λ (es : List Event). event ∷ es) later.split }

-- that of a leg in which each byte was taken
leg_ends : (events legs last : List Event) (byte : ℕ) (bytes : List ℕ) → events ≡ legs ++ last
    → last ≡ leg (byte ∷ bytes)
    → (front : List Event) × (events ≡ front ++ Ack ∷ [])
leg_ends events legs last byte bytes spelled is =
    let taken = ends_taken byte bytes in (
      legs ++ Start ∷ taken.0,
      spelled
          ∙ ap (λ (es : List Event). legs ++ es) (is ∙ ap (λ (es : List Event). Start ∷ es) taken.1)
          ∙ sym (append_assoc legs (Start ∷ taken.0) (Ack ∷ [])),
    )

-- ---- a byte

reason_after_start : (front : List Event) → (reason : Reason) × ByteReason (front ++ Start ∷ []) reason
reason_after_start [] = (ReadFirst, read_first refl)
reason_after_start (event ∷ front) = (BadRestart, bad_restart (event ∷ front) (λ none. cc none) refl)

reason_after : (front : List Event) (last : Event) (b : ℕ) → follows_in_turn last (Byte b) ≡ true
    → (reason : Reason) × ByteReason (front ++ last ∷ []) reason
reason_after front Start b turns = reason_after_start front
reason_after front (Byte other) b turns = absurd (cc turns)
reason_after front Ack b turns = (BadPec, bad_pec_sent front refl)
reason_after front Nack b turns = absurd (cc turns)
reason_after front Stop b turns = absurd (cc turns)

-- ---- its answer

byte_stands : (last : Event) → follows_in_turn last Ack ≡ true → (b : ℕ) × (last ≡ Byte b)
byte_stands Start turns = absurd (cc turns)
byte_stands (Byte b) turns = (b, refl)
byte_stands Ack turns = absurd (cc turns)
byte_stands Nack turns = absurd (cc turns)
byte_stands Stop turns = absurd (cc turns)

same_turn : (last : Event) → follows_in_turn last Nack ≡ follows_in_turn last Ack
same_turn Start = refl
same_turn (Byte b) = refl
same_turn Ack = refl
same_turn Nack = refl
same_turn Stop = refl

-- Where the events of a packet end with a byte, and which answers to it may follow in any case.
data AfterByte (profile : List DeviceParts) (events : List Event) : Type 0 where
  -- S addr+W, which any device may refuse
  after_address : (front : List Event) → (addr : ℕ) → events ≡ front ++ Start ∷ Byte (write_address addr) ∷ []
      → MayFollow profile events Nack
      → AfterByte profile events
  -- S addr+W A bytes A .. byte, which it may refuse too
  after_written : (front : List Event) → (addr : ℕ) → (bytes : List ℕ) → (byte : ℕ)
      → events ≡ front ++ leg (write_address addr ∷ bytes) ++ Byte byte ∷ []
      → MayFollow profile events Nack → AfterByte profile events
  -- S addr+R, to which both answers may follow
  after_read_address : MayFollow profile events Ack → MayFollow profile events Nack → AfterByte profile events
  -- S addr+R A bytes A .. byte
  in_reply : (front : List Event) → (addr : ℕ) → (bytes : List ℕ) → (byte : ℕ)
      → events ≡ front ++ leg (read_address addr ∷ bytes) ++ Byte byte ∷ []
      → AfterByte profile events

-- ---- a byte that may follow

module _ (profile : List DeviceParts) where
  last_before : (events : List Event) (b : ℕ) → MayFollow profile events (Byte b)
      → (reason : Reason) × ByteReason events reason
  last_before [] b follows = absurd (cc (first_is_start profile (Byte b) follows))
  last_before (event ∷ events) b follows =
      let w = last_of event events in
      let turns = events_take_turns profile w.front w.last (Byte b)
      (subst (λ (es : List Event). MayFollow profile es (Byte b)) w.split follows) in
      let found = reason_after w.front w.last b turns in
      (found.0, subst (λ (es : List Event). ByteReason es found.0) (sym w.split) found.1)

  pub byte_has_reason : (events : List Event) → SomeByteMayFollow profile events
      → (reason : Reason) × ByteReason events reason
  byte_has_reason events some = last_before events some.0 some.1

-- ---- an answer that may follow

module _ (pec_is_byte : (bytes : List ℕ) → pec bytes < 256) (profile : List DeviceParts) (bus : IsBus profile) where
  -- ---- the events before an answer

  module _ (events front : List Event) (b : ℕ) (ends : events ≡ front ++ Byte b ∷ []) where
    not_after : (other : List Event) (event : Event) → (event ≡ Byte b → ⊥) → events ≡ other ++ event ∷ [] → ⊥
    not_after other event differs is = differs (sym (same_from_push front other (Byte b) event (sym ends ∙ is)).1)

    in_written : (w : PartsAndLeg profile events) → LegBegins profile w.parts w.last → AfterByte profile events
    in_written w (leg_start is) =
        absurd (not_after w.legs Start (λ same. cc same) (w.spelled ∙ ap (λ (es : List Event). w.legs ++ es) is))
    in_written w (leg_address addr seven new is) =
        let spelled = w.spelled ∙ ap (λ (es : List Event). w.legs ++ es) is in
        after_address w.legs addr spelled
        (
        subst (λ (es : List Event). MayFollow profile es Nack) (sym spelled)
        (nack_follows pec_is_byte profile bus w.parts w.few w.distinct w.legs w.each addr new seven)
        )
    in_written w (leg_taken addr device bytes new known begins is) =
        let taken = leg_ends events w.legs w.last (write_address addr) bytes w.spelled is in
        absurd (not_after taken.0 Ack (λ same. cc same) taken.1)
    in_written w (leg_sent addr device bytes byte new known inside small is) =
        let spelled : events ≡ (w.legs ++ leg (write_address addr ∷ bytes)) ++ Byte byte ∷ [] =
        w.spelled ∙ ap (λ (es : List Event). w.legs ++ es) is
        ∙ sym (append_assoc w.legs (leg (write_address addr ∷ bytes)) (Byte byte ∷ [])) in
        after_written w.legs addr bytes byte spelled
        (
        subst (λ (es : List Event). MayFollow profile es Nack) (sym spelled)
        ((refusal_follows pec_is_byte profile bus w.parts w.few w.distinct w.legs w.each addr new device known bytes
        byte).1 (inside, small))
        )

    in_answer : (legs last : List Event) (addr : ℕ) (answer : List ℕ) → events ≡ legs ++ last
        → AnswerBegins (read_address addr) answer last
        → AfterByte profile events
    in_answer legs last addr answer spelled (answer_taken bytes fewer is) =
        let taken = leg_ends events legs last (read_address addr) bytes spelled is in
        absurd (not_after taken.0 Ack (λ same. cc same) taken.1)
    in_answer legs last addr answer spelled (answer_sent bytes byte rest split is) =
        in_reply legs addr bytes byte
        (spelled ∙ ap (λ (es : List Event). legs ++ es) is
        ∙ sym (append_assoc legs (leg (read_address addr ∷ bytes)) (Byte byte ∷ [])))

    in_read : ReadBegins profile events → AfterByte profile events
    in_read (read_start addr device body known is same) =
        absurd (not_after (leg (write_address addr ∷ body)) Start (λ start. cc start) same)
    in_read (read_address_sent addr device body known is same) =
        after_read_address
        (
        subst (λ (es : List Event). MayFollow profile es Ack) (sym same)
        (replies.ack_follows pec_is_byte profile bus addr device known body is)
        )
        (
        subst (λ (es : List Event). MayFollow profile es Nack) (sym same)
        (replies.nack_follows pec_is_byte profile bus addr device known body is)
        )
    in_read (read_answer addr device body answer last known answers begins same) =
        in_answer (leg (write_address addr ∷ body)) last addr answer same begins

    in_alert : AlertBegins events → AfterByte profile events
    in_alert (at_alert is) =
        after_read_address (subst (λ (es : List Event). MayFollow profile es Ack) (sym is)
        (alerts.ack_follows pec_is_byte profile bus))
        (subst (λ (es : List Event). MayFollow profile es Nack) (sym is) (alerts.nack_follows profile))
    in_alert (alert_answer byte with_pec small begins) = in_answer [] events alert_address _ refl begins

    after_byte : IsBeginning profile events → AfterByte profile events
    after_byte (whole packet) = absurd (ends_with profile front (Byte b) refl (subst (IsPacket profile) ends packet))
    after_byte (before_stop packet) =
        absurd (ends_behind profile front (Byte b) refl
        (subst (λ (es : List Event). IsPacket profile (es ++ Stop ∷ [])) ends packet))
    after_byte (written w) = in_written w w.begins
    after_byte (read begins) = in_read begins
    after_byte (alert begins) = in_alert begins

  before_answer : (events : List Event) (answer : Event)
      → ((last : Event) → follows_in_turn last answer ≡ follows_in_turn last Ack) → answer ≢ Start
      → MayFollow profile events answer → AfterByte profile events
  before_answer [] answer turn other follows = absurd (other (first_is_start profile answer follows))
  before_answer (event ∷ events) answer turn other follows =
      let all = event ∷ events in
      let w = last_of event events in
      let turns = events_take_turns profile w.front w.last answer
      (subst (λ (es : List Event). MayFollow profile es answer) w.split follows) in
      let byte = byte_stands w.last (sym (turn w.last) ∙ turns) in
      after_byte all w.front byte.0 (w.split ∙ ap (λ (e : Event). w.front ++ e ∷ []) byte.1)
      (viable_is_beginning pec_is_byte profile bus all (λ none. cc none)
      (front_is_viable profile all (answer ∷ []) follows))

  -- ---- ACK

  written_reason : (events front : List Event) (addr : ℕ) (bytes : List ℕ) (byte : ℕ)
      → events ≡ front ++ leg (write_address addr ∷ bytes) ++ Byte byte ∷ []
      → (reason : Reason) × AckReason events reason
  written_reason events front addr [] byte is = (UnknownCommand, unknown_command front addr byte is)
  written_reason events front addr (code ∷ bytes) byte is = (BadPec, bad_pec_taken front addr code bytes byte is)

  ack_reason : (events : List Event) → FollowsAlone profile events Nack → AfterByte profile events
      → (reason : Reason) × AckReason events reason
  ack_reason events alone (after_address front addr is nack) = (UnknownDevice, unknown_device front addr is)
  ack_reason events alone (after_written front addr bytes byte is nack) = written_reason events front addr bytes byte is
  ack_reason events alone (after_read_address ack nack) = absurd (cc (alone.alone Ack ack))
  ack_reason events alone (in_reply front addr bytes byte is) = (TooLong, too_long front addr bytes byte is)

  pub ack_has_reason : (events : List Event) → FollowsAlone profile events Nack
      → (reason : Reason) × AckReason events reason
  ack_has_reason events alone = ack_reason events alone
      (before_answer events Nack same_turn (λ same. cc same) alone.follows)

  -- ---- NACK

  nack_reason : (events : List Event) → FollowsAlone profile events Ack → AfterByte profile events
      → NackReason events TooShort
  nack_reason events alone (after_address front addr is nack) = absurd (cc (alone.alone Nack nack))
  nack_reason events alone (after_written front addr bytes byte is nack) = absurd (cc (alone.alone Nack nack))
  nack_reason events alone (after_read_address ack nack) = absurd (cc (alone.alone Nack nack))
  nack_reason events alone (in_reply front addr bytes byte is) = too_short front addr bytes byte is

  pub nack_has_reason : (events : List Event) → FollowsAlone profile events Ack → NackReason events TooShort
  nack_has_reason events alone = nack_reason events alone
      (before_answer events Ack (λ last. refl) (λ same. cc same) alone.follows)
