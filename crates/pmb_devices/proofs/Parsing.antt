-- The signals from which events were recorded: START of START alone, and a byte in a leg that
-- reads no device of the host's byte alone. For `Bus::new`, `Bus::signal` and the laws on packets.
-- `Stands` says that events and STOP were recorded after some legs, of signals that lead to the
-- final ones; the first event tells the first signal, and what was recorded after it.
use Rattle.std.proofs.Common.{◌≡◌, ◌≢◌, ℕ, Bool, true, false, List, [], ◌∷◌, ◌++◌, refl, sym, ap, subst, ◌∙◌}
use Rattle.std.proofs.Common.{append_assoc}
use Rattle.std.proofs.lemmas.List.{append-nil}
use Rattle.pmb_bus.specs.declared.event.Event.{Event}
use Rattle.pmb_bus.specs.declared.event.Event.TheVariants as wire
use Rattle.pmb_bus.specs.Address.{read_address}
use Rattle.pmb_registers.specs.State.{InState}
use Rattle.pmb_device.specs.declared.signal.HostSignal.{HostSignal}
use Rattle.pmb_device.specs.declared.signal.HostSignal.TheVariants.{Start, Byte, Ask, Ack, Nack, Stop}
use Rattle.pmb_device.specs.declared.signal.DeviceSignal.{DeviceSignal}
use Rattle.pmb_device.specs.declared.signal.DeviceSignal.TheVariants as answers
use Rattle.pmb_device.specs.Legs.{Leg, Legs, Outside, Inside, sent, with_start, with_signal}
use Rattle.pmb_device.specs.Rules.{AnswersAsk, replies, not_read}
use Rattle.pmb_devices.specs.Bus.{AreAnswered, BusAnswers, AnsweredSignal, acknowledged, recorded_events, given}
use Rattle.pmb_devices.specs.Bus.{legs_after, recorded}

-- ---- what is recorded of an answer

-- an Ask is never recorded as START, nor as STOP
given_no_start : (result : DeviceSignal) → given result ≡ wire.Start → ⊥
given_no_start answers.Silent is = cc is
given_no_start answers.Ack is = cc is
given_no_start answers.Nack is = cc is
given_no_start (answers.Byte b) is = cc is

pub given_no_stop : (result : DeviceSignal) → given result ≡ wire.Stop → ⊥
given_no_stop answers.Silent is = cc is
given_no_stop answers.Ack is = cc is
given_no_stop answers.Nack is = cc is
given_no_stop (answers.Byte b) is = cc is

-- as a byte only where a device gave that byte
pub given_byte : (result : DeviceSignal) (b : ℕ) → given result ≡ wire.Byte b → result ≡ answers.Byte b
given_byte answers.Silent b is = absurd (cc is)
given_byte answers.Ack b is = absurd (cc is)
given_byte answers.Nack b is = absurd (cc is)
given_byte (answers.Byte c) b is = ap (λ (n : ℕ). answers.Byte n) (cc is)

-- a byte has ACK where a device gave it
pub acknowledged_is : (result : DeviceSignal) → acknowledged result ≡ wire.Ack → result ≡ answers.Ack
acknowledged_is answers.Silent is = absurd (cc is)
acknowledged_is answers.Ack is = refl
acknowledged_is answers.Nack is = absurd (cc is)
acknowledged_is (answers.Byte b) is = absurd (cc is)

-- whether a START stands among events
abbrev pub has_start : List Event → Bool
has_start [] = false
has_start (wire.Start ∷ events) = true
has_start (wire.Byte b ∷ events) = has_start events
has_start (wire.Ack ∷ events) = has_start events
has_start (wire.Nack ∷ events) = has_start events
has_start (wire.Stop ∷ events) = has_start events

-- events after one of which none is START
pub no_start_behind : (event : Event) (more : List Event) → has_start (event ∷ more) ≡ false → has_start more ≡ false
no_start_behind wire.Start more none = absurd (cc none)
no_start_behind (wire.Byte b) more none = none
no_start_behind wire.Ack more none = none
no_start_behind wire.Nack more none = none
no_start_behind wire.Stop more none = none

-- the legs that ended where one begins
abbrev pub closed : Legs → List Leg
closed Outside = []
closed (Inside earlier leg) = earlier ++ leg ∷ []

-- No device is read in the leg.
abbrev pub IsUnread : Leg → Type 0
IsUnread leg = (n : ℕ) (bytes : List ℕ) → sent leg ≡ read_address n ∷ bytes → ⊥

module _ (members : List InState) (final : Legs) where
  -- After some legs events and STOP were recorded, of signals that led to the final legs.
  pub record Stands (legs : Legs) (events : List Event) : Type 0 where
    -- the signals after these legs,
    pub more : List AnsweredSignal
    -- with the answers of the bus,
    pub answered : AreAnswered members legs more
    -- the events that were recorded of them, with STOP,
    pub spelled : recorded_events more ++ wire.Stop ∷ [] ≡ events
    -- and the legs to which they lead
    pub ends : legs_after legs more ≡ final

  -- ---- START

  -- what was recorded as START
  start_of : (legs : Legs) (rest : List Event) (signal : HostSignal) (result : DeviceSignal)
      (more : List AnsweredSignal)
      → AreAnswered members (with_signal legs signal) more → (recorded signal result ++ recorded_events more)
      ++ wire.Stop ∷ [] ≡ wire.Start ∷ rest
      → legs_after (with_signal legs signal) more ≡ final → Stands (with_start legs) rest
  start_of legs rest Start result more answered spelled ends =
      record { more = more; answered = answered; spelled = cc spelled; ends = ends }
  start_of legs rest (Byte b) result more answered spelled ends = absurd (cc spelled)
  start_of legs rest Ask result more answered spelled ends = absurd (given_no_start result (cc spelled))
  start_of legs rest Ack result more answered spelled ends = absurd (cc spelled)
  start_of legs rest Nack result more answered spelled ends = absurd (cc spelled)
  start_of legs rest Stop result more answered spelled ends = absurd (cc spelled)

  start_from : (legs : Legs) (rest : List Event) (more : List AnsweredSignal) → AreAnswered members legs more
      → recorded_events more ++ wire.Stop ∷ [] ≡ wire.Start ∷ rest → legs_after legs more ≡ final
      → Stands (with_start legs) rest
  start_from legs rest [] answered spelled ends = absurd (cc spelled)
  start_from legs rest (exchange ∷ more) answered spelled ends =
      start_of legs rest exchange.signal exchange.result more answered.2 spelled ends

  -- START ends the leg before it
  started : (legs : Legs) (events : List Event) → Stands (with_start legs) events
      → Stands (Inside (closed legs) []) events
  started Outside events stands = stands
  started (Inside earlier leg) events stands = stands

  -- After START a leg begins.
  pub behind_start : (legs : Legs) (rest : List Event) → Stands legs (wire.Start ∷ rest)
      → Stands (Inside (closed legs) []) rest
  behind_start legs rest stands = started legs rest
      (start_from legs rest stands.more stands.answered stands.spelled stands.ends)

  -- ---- a byte

  -- a byte was sent, and the bus answered what was recorded
  pub record Sent (earlier : List Leg) (leg : Leg) (b : ℕ) (event : Event) (rest : List Event) : Type 0 where
    -- what the bus answered,
    pub result : DeviceSignal
    pub answer : BusAnswers members (Inside earlier leg) (Byte b) result
    -- what was recorded of it,
    pub recorded_as : acknowledged result ≡ event
    -- and what was recorded after the byte
    pub stands : Stands (Inside earlier (leg ++ Byte b ∷ [])) rest

  -- a device gives no byte in a leg that reads no device
  no_reply : (member : InState) (earlier : List Leg) (leg : Leg) (b : ℕ) → IsUnread leg
      → AnswersAsk member.device member.state earlier leg (answers.Byte b) → ⊥
  no_reply member earlier leg b unread (replies address bytes sent_is body read reply all ok spelled is) =
      let address_is : address ≡ read_address member.device.address = read.own in
      unread member.device.address bytes (sent_is ∙ ap (λ (a : ℕ). a ∷ bytes) address_is)
  no_reply member earlier leg b unread (not_read none is) = cc is

  -- so no Ask there was recorded as a byte
  no_byte_asked : (earlier : List Leg) (leg : Leg) (result : DeviceSignal) (b : ℕ) → IsUnread leg
      → BusAnswers members (Inside earlier leg) Ask result → given result ≡ wire.Byte b → ⊥
  no_byte_asked earlier leg result b unread bus given_is =
      let is : result ≡ answers.Byte b = given_byte result b given_is in
      let one = bus.given_by_one (λ silent. cc (is, silent)) in
      no_reply one.0 earlier leg b unread (subst (AnswersAsk one.0.device one.0.state earlier leg) is one.2)

  -- what was recorded as a byte
  byte_of : (earlier : List Leg) (leg : Leg) (b : ℕ) (event : Event) (rest : List Event) → IsUnread leg
      → (signal : HostSignal)
      (result : DeviceSignal) (more : List AnsweredSignal) → BusAnswers members (Inside earlier leg) signal result
      → AreAnswered members (with_signal (Inside earlier leg) signal) more
      → (recorded signal result ++ recorded_events more) ++ wire.Stop ∷ [] ≡ wire.Byte b ∷ event ∷ rest
      → legs_after (with_signal (Inside earlier leg) signal) more ≡ final → Sent earlier leg b event rest
  byte_of earlier leg b event rest unread Start result more bus answered spelled ends = absurd (cc spelled)
  -- the host's byte: the same byte, and its answer
  byte_of earlier leg b event rest unread (Byte c) result more bus answered spelled ends =
      let is : c ≡ b = cc spelled in
      record {
        result = result;
        answer = subst (λ (n : ℕ). BusAnswers members (Inside earlier leg) (Byte n) result) is bus;
        recorded_as = cc spelled;
        stands = record {
          more = more;
          answered = subst (λ (n : ℕ). AreAnswered members (Inside earlier (leg ++ Byte n ∷ [])) more) is answered;
          spelled = cc spelled;
          ends = ap (λ (n : ℕ). legs_after (Inside earlier (leg ++ Byte n ∷ [])) more) (sym is) ∙ ends;
        };
      }
  -- an Ask: no device gives a byte here
  byte_of earlier leg b event rest unread Ask result more bus answered spelled ends =
      absurd (no_byte_asked earlier leg result b unread bus (cc spelled))
  byte_of earlier leg b event rest unread Ack result more bus answered spelled ends = absurd (cc spelled)
  byte_of earlier leg b event rest unread Nack result more bus answered spelled ends = absurd (cc spelled)
  byte_of earlier leg b event rest unread Stop result more bus answered spelled ends = absurd (cc spelled)

  byte_from : (earlier : List Leg) (leg : Leg) (b : ℕ) (event : Event) (rest : List Event) → IsUnread leg
      → (more : List AnsweredSignal)
      → AreAnswered members (Inside earlier leg) more → recorded_events more ++ wire.Stop ∷ [] ≡ wire.Byte b ∷ event
      ∷ rest
      → legs_after (Inside earlier leg) more ≡ final → Sent earlier leg b event rest
  byte_from earlier leg b event rest unread [] answered spelled ends = absurd (cc spelled)
  byte_from earlier leg b event rest unread (exchange ∷ more) answered spelled ends =
      byte_of earlier leg b event rest unread exchange.signal exchange.result more answered.1 answered.2 spelled ends

  -- After a byte in a leg that reads no device stands the host's byte.
  pub behind_byte : (earlier : List Leg) (leg : Leg) (b : ℕ) (event : Event) (rest : List Event) → IsUnread leg
      → Stands (Inside earlier leg) (wire.Byte b ∷ event ∷ rest) → Sent earlier leg b event rest
  behind_byte earlier leg b event rest unread stands =
      byte_from earlier leg b event rest unread stands.more stands.answered stands.spelled stands.ends

  -- ---- STOP

  -- no signal but STOP was recorded as STOP
  stop_of : (signal : HostSignal) (result : DeviceSignal) (more : List AnsweredSignal) → signal ≢ Stop
      → (recorded signal result ++ recorded_events more) ++ wire.Stop ∷ [] ≡ wire.Stop ∷ [] → ⊥
  stop_of Start result more other spelled = cc spelled
  stop_of (Byte b) result more other spelled = cc spelled
  stop_of Ask result more other spelled = given_no_stop result (cc spelled)
  stop_of Ack result more other spelled = cc spelled
  stop_of Nack result more other spelled = cc spelled
  stop_of Stop result more other spelled = other refl

  stop_from : (legs : Legs) (more : List AnsweredSignal) → AreAnswered members legs more
      → recorded_events more ++ wire.Stop ∷ [] ≡ wire.Stop ∷ []
      → legs_after legs more ≡ final → legs ≡ final
  stop_from legs [] answered spelled ends = ends
  stop_from legs (exchange ∷ more) answered spelled ends =
      absurd (stop_of exchange.signal exchange.result more answered.0 spelled)

  -- Before STOP the legs are the final ones.
  pub at_stop : (legs : Legs) → Stands legs (wire.Stop ∷ []) → legs ≡ final
  at_stop legs stands = stop_from legs stands.more stands.answered stands.spelled stands.ends

  -- ---- a last leg, whatever signals it has

  pub record Goes (earlier : List Leg) (leg : Leg) : Type 0 where
    -- the other signals of the leg
    pub behind : Leg
    pub is : final ≡ Inside earlier (leg ++ behind)

  -- one signal more
  goes_on : (earlier : List Leg) (leg : Leg) (signal : HostSignal) → Goes earlier (leg ++ signal ∷ [])
      → Goes earlier leg
  goes_on earlier leg signal goes =
      record {
        behind = signal ∷ goes.behind;
        is = goes.is ∙ ap (λ (l : Leg). Inside earlier l)
            (append_assoc leg (signal ∷ []) goes.behind);
      }

  -- by the signal that comes first
  goes_of : (earlier : List Leg) (leg : Leg) (signal : HostSignal) (result : DeviceSignal) (more : List AnsweredSignal)
      → signal ≢ Stop
      → AreAnswered members (with_signal (Inside earlier leg) signal) more
      → has_start ((recorded signal result ++ recorded_events more) ++ wire.Stop ∷ []) ≡ false
      → legs_after (with_signal (Inside earlier leg) signal) more ≡ final
      → ((leg : Leg) → AreAnswered members (Inside earlier leg) more
      → has_start (recorded_events more ++ wire.Stop ∷ []) ≡ false
      → legs_after (Inside earlier leg) more ≡ final → Goes earlier leg) → Goes earlier leg
  goes_of earlier leg Start result more other answered none ends later = absurd (cc none)
  goes_of earlier leg (Byte b) result more other answered none ends later =
      goes_on earlier leg (Byte b)
      (later (leg ++ Byte b ∷ []) answered (no_start_behind (acknowledged result)
      (recorded_events more ++ wire.Stop ∷ []) none) ends)
  goes_of earlier leg Ask result more other answered none ends later =
      goes_on earlier leg Ask (later (leg ++ Ask ∷ []) answered
      (no_start_behind (given result) (recorded_events more ++ wire.Stop ∷ []) none) ends)
  goes_of earlier leg Ack result more other answered none ends later =
      goes_on earlier leg Ack (later (leg ++ Ack ∷ []) answered none ends)
  goes_of earlier leg Nack result more other answered none ends later =
      goes_on earlier leg Nack (later (leg ++ Nack ∷ []) answered none ends)
  goes_of earlier leg Stop result more other answered none ends later = absurd (other refl)

  -- and by all that come
  goes_from : (earlier : List Leg) (leg : Leg) (more : List AnsweredSignal)
      → AreAnswered members (Inside earlier leg) more
      → has_start (recorded_events more ++ wire.Stop ∷ []) ≡ false → legs_after (Inside earlier leg) more ≡ final
      → Goes earlier leg
  goes_from earlier leg [] answered none ends =
      record { behind = []; is = sym ends ∙ ap (λ (l : Leg). Inside earlier l) (sym (append-nil leg)) }
  goes_from earlier leg (exchange ∷ more) answered none ends =
      goes_of earlier leg exchange.signal exchange.result more answered.0 answered.2 none ends
      (λ longer others nor goes. goes_from earlier longer more others nor goes)

  -- events of which none is START lead to the same leg
  pub stays_in : (earlier : List Leg) (leg : Leg) (events : List Event) → has_start events ≡ false
      → Stands (Inside earlier leg) events
      → Goes earlier leg
  stays_in earlier leg events none stands =
      goes_from earlier leg stands.more stands.answered
      (subst (λ (es : List Event). has_start es ≡ false) (sym stands.spelled) none) stands.ends
