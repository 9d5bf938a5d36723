-- What a host heard up to STOP, and what the bus recorded of it. For `Exchange::new`,
-- `Exchange::next` and the law `runs_are_exchanges`. STOP is the last of the signals, so that
-- those before it are the task's; of legs whose bytes were all acknowledged just their events are
-- recorded, START and each byte with its ACK.
use Rattle.std.proofs.Common.{◌≡◌, ℕ, List, [], ◌∷◌, ◌++◌, map, flat_map, refl, sym, ap, subst, ◌∙◌, append_assoc}
use Rattle.std.specs.List.{AllByRecursion}
use Rattle.std.proofs.lemmas.List.{append-nil, map-append}
use Rattle.std.proofs.lemmas.Grind.{flat_map-append}
use Rattle.pmb_bus.specs.declared.event.Event.{Event}
use Rattle.pmb_bus.specs.declared.event.Event.TheVariants as events
use Rattle.pmb_registers.specs.State.{InState}
use Rattle.pmb_device.specs.declared.signal.HostSignal.{HostSignal}
use Rattle.pmb_device.specs.declared.signal.HostSignal.TheVariants.{Start, Byte, Ask, Ack, Nack, Stop}
use Rattle.pmb_device.specs.declared.signal.DeviceSignal.{DeviceSignal}
use Rattle.pmb_device.specs.declared.signal.DeviceSignal.TheVariants as answers
use Rattle.pmb_device.specs.Legs.{Legs, with_signal}
use Rattle.pmb_devices.specs.Bus.{AreAnswered, AnsweredSignal, acknowledged, recorded, recorded_events}
use Rattle.pmb_command.specs.Parts.{DeviceParts}
use Rattle.pmb_transaction.specs.Packet.{acked, leg}
use Rattle.pmb_transaction.specs.Transaction.{TransactionData}
use Rattle.pmb_host.specs.Signals.{leg_signals, reading_signals, signals}
use Rattle.pmb_host.specs.Steps.{GoWell, IsGood, StopsBehind, bytes_read, byte_of, sent_signals}
use Rattle.pmb_exchange.specs.Run.{stopped}
use Rattle.pmb_exchange.proofs.Places.{well_parts}

-- ---- the last of a list

no_end : {X : Type 0} (xs : List X) (x : X) → [] ≡ xs ++ x ∷ [] → ⊥
no_end [] x is = cc is
no_end (y ∷ xs) x is = cc is

-- lists with one more at their ends
pub same_front : {X : Type 0} (xs ys : List X) (x y : X) → xs ++ x ∷ [] ≡ ys ++ y ∷ [] → xs ≡ ys
same_front [] [] x y is = refl
same_front [] (z ∷ ys) x y is =
    let rest : [] ≡ ys ++ y ∷ [] = cc is in
    absurd (no_end ys y rest)
same_front (z ∷ xs) [] x y is =
    let rest : xs ++ x ∷ [] ≡ [] = cc is in
    absurd (no_end xs x (sym rest))
same_front (z ∷ xs) (w ∷ ys) x y is =
    let rest : xs ++ x ∷ [] ≡ ys ++ y ∷ [] = cc is in
    let here : z ≡ w = cc is in
    let more = same_front xs ys x y rest in
    cc

module _ (heard : List AnsweredSignal) (last : DeviceSignal) where
  -- the signals before STOP
  pub stop_last : (legs : List (List ℕ)) (bytes : List ℕ) → sent_signals (stopped heard last) ≡ signals legs bytes
      → sent_signals heard ≡ flat_map leg_signals legs ++ reading_signals bytes
  stop_last legs bytes is =
      let ends = map-append (λ (one : AnsweredSignal). one.signal) heard
      (record { signal = Stop; result = last } ∷ []) in
      same_front (sent_signals heard) (flat_map leg_signals legs ++ reading_signals bytes) Stop Stop
      (sym ends ∙ is ∙ sym (append_assoc (flat_map leg_signals legs) (reading_signals bytes) (Stop ∷ [])))

  -- the signal that failed comes before it
  pub failed_last : (profile : List DeviceParts) (task : TransactionData) (front : List AnsweredSignal)
      (failed : AnsweredSignal) → StopsBehind profile task (stopped heard last) front failed
      → heard ≡ front ++ failed ∷ []
  failed_last profile task front failed stops =
      same_front heard (front ++ failed ∷ []) (record { signal = Stop; result = last })
      (record { signal = Stop; result = stops.result })
      (stops.split ∙ sym (append_assoc front (failed ∷ []) (record { signal = Stop; result = stops.result } ∷ [])))

  -- STOP reads nothing
  pub stop_reads_nothing : bytes_read (stopped heard last) ≡ bytes_read heard
  stop_reads_nothing =
      flat_map-append (λ (one : AnsweredSignal). byte_of one.signal one.result) heard
      (record { signal = Stop; result = last } ∷ []) ∙ append-nil (bytes_read heard)

  -- before it all went well where all did
  pub well_before : GoWell (stopped heard last) → GoWell heard
  well_before well = (well_parts heard (record { signal = Stop; result = last } ∷ []) well).0

-- the first of answered signals
pub answered_front : (members : List InState) (legs : Legs) (before behind : List AnsweredSignal)
    → AreAnswered members legs (before ++ behind)
    → AreAnswered members legs before
answered_front members legs [] behind answered = tt
answered_front members legs (one ∷ before) behind answered =
    (answered.0, answered.1, answered_front members (with_signal legs one.signal) before behind answered.2)

-- ---- events

pub recorded-append : (before behind : List AnsweredSignal) → recorded_events (before ++ behind)
    ≡ recorded_events before ++ recorded_events behind
recorded-append [] behind = refl
recorded-append (one ∷ before) behind =
    ap (λ (es : List Event). recorded one.signal one.result ++ es) (recorded-append before behind)
    ∙ sym (append_assoc (recorded one.signal one.result) (recorded_events before) (recorded_events behind))

-- with STOP
pub recorded_stopped : (heard : List AnsweredSignal) (last : DeviceSignal) → recorded_events (stopped heard last)
    ≡ recorded_events heard ++ events.Stop ∷ []
recorded_stopped heard last = recorded-append heard (record { signal = Stop; result = last } ∷ [])

-- a byte that is not acknowledged
pub refused_event : (result : DeviceSignal) → (result ≡ answers.Ack → ⊥) → acknowledged result ≡ events.Nack
refused_event answers.Silent none = refl
refused_event answers.Ack none = absurd (none refl)
refused_event answers.Nack none = refl
refused_event (answers.Byte b) none = refl

-- the events of a signal in a written leg
abbrev pub taken_events : HostSignal → List Event
taken_events Start = events.Start ∷ []
taken_events (Byte b) = events.Byte b ∷ events.Ack ∷ []
taken_events Ask = []
taken_events Ack = []
taken_events Nack = []
taken_events Stop = []

-- START and bytes alone
abbrev pub IsWritten : HostSignal → Type 0
IsWritten Start = Unit {0}
IsWritten (Byte b) = Unit {0}
IsWritten Ask = ⊥
IsWritten Ack = ⊥
IsWritten Nack = ⊥
IsWritten Stop = ⊥

recorded_taken : (signal : HostSignal) (result : DeviceSignal) → IsWritten signal → IsGood signal result
    → recorded signal result ≡ taken_events signal
recorded_taken Start result written good = refl
recorded_taken (Byte b) result written good = ap (λ (r : DeviceSignal). events.Byte b ∷ acknowledged r ∷ []) good
recorded_taken Ask result written good = absurd written
recorded_taken Ack result written good = absurd written
recorded_taken Nack result written good = absurd written
recorded_taken Stop result written good = absurd written

-- what is recorded of signals that went well
pub recorded_well : (heard : List AnsweredSignal) (xs : List HostSignal) → sent_signals heard ≡ xs
    → AllByRecursion IsWritten xs → GoWell heard
    → recorded_events heard ≡ flat_map taken_events xs
recorded_well [] [] is written well = refl
recorded_well [] (x ∷ xs) is written well = absurd (cc is)
recorded_well (one ∷ heard) [] is written well = absurd (cc is)
recorded_well (one ∷ heard) (x ∷ xs) is written well =
    let here : one.signal ≡ x = cc is in
    let rest : sent_signals heard ≡ xs = cc is in
    let first =
    recorded_taken one.signal one.result (subst IsWritten (sym here) written.0) well.0 ∙ ap taken_events here in
    let more = recorded_well heard xs rest written.1 well.1 in
    ap (λ (es : List Event). es ++ recorded_events heard) first ∙ ap (λ (es : List Event). taken_events x ++ es) more

-- ---- of legs

bytes_written : (bytes : List ℕ) (tail : List HostSignal) → AllByRecursion IsWritten tail
    → AllByRecursion IsWritten (map Byte bytes ++ tail)
bytes_written [] tail all = all
bytes_written (b ∷ bytes) tail all = (tt, bytes_written bytes tail all)

pub legs_written : (legs : List (List ℕ)) (bytes : List ℕ)
    → AllByRecursion IsWritten (flat_map leg_signals legs ++ leg_signals bytes)
legs_written [] bytes = (tt, subst (AllByRecursion IsWritten) (append-nil (map Byte bytes)) (bytes_written bytes [] tt))
legs_written (first ∷ legs) bytes = (
  tt,
  subst (AllByRecursion IsWritten) (sym (append_assoc (map Byte first) (flat_map leg_signals legs) (leg_signals bytes)))
      (bytes_written first (flat_map leg_signals legs ++ leg_signals bytes) (legs_written legs bytes)),
)

bytes_events : (bytes : List ℕ) → flat_map taken_events (map Byte bytes) ≡ acked bytes
bytes_events [] = refl
bytes_events (b ∷ bytes) = ap (λ (es : List Event). events.Byte b ∷ events.Ack ∷ es) (bytes_events bytes)

leg_events : (bytes : List ℕ) → flat_map taken_events (leg_signals bytes) ≡ leg bytes
leg_events bytes = ap (λ (es : List Event). events.Start ∷ es) (bytes_events bytes)

pub legs_events_are : (legs : List (List ℕ)) (bytes : List ℕ)
    → flat_map taken_events (flat_map leg_signals legs ++ leg_signals bytes) ≡ flat_map leg legs ++ leg bytes
legs_events_are [] bytes = leg_events bytes
legs_events_are (first ∷ legs) bytes =
    let more = flat_map leg_signals legs ++ leg_signals bytes in
    ap (flat_map taken_events) (append_assoc (leg_signals first) (flat_map leg_signals legs) (leg_signals bytes))
    ∙ flat_map-append taken_events (leg_signals first) more
    ∙ ap (λ (es : List Event). es ++ flat_map taken_events more) (leg_events first)
    ∙ ap (λ (es : List Event). leg first ++ es) (legs_events_are legs bytes)
    ∙ sym (append_assoc (leg first) (flat_map leg legs) (leg bytes))
