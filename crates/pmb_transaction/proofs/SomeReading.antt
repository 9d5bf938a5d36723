-- Each list of events has a reading. For the laws `each_list_has_a_reading` and
-- `refused_events_have_a_reason`. By induction over the events, with two readings of the rest: one
-- after any packet under way (`ReadsOn`), one while events are passed over (`PassesOn`). Whether
-- the next event may follow is decided (FinitePackets).
use Rattle.std.proofs.Common.{◌≡◌, ◌≢◌, ℕ, ◌+◌, ◌<◌, inl, inr, List, [], ◌∷◌, ◌++◌, length, refl, sym, subst}
use Rattle.std.proofs.Common.{append_assoc, arith}
use Rattle.std.proofs.lemmas.List.{append-nil}
use Rattle.pmb_bus.specs.Count.{capped}
use Rattle.pmb_bus.specs.Kinds.{AreKindsOf}
use Rattle.pmb_bus.specs.Pec.{pec}
use Rattle.pmb_bus.specs.declared.event.Event.{Event}
use Rattle.pmb_bus.specs.declared.event.Event.TheVariants.{Start, Byte, Ack, Nack, Stop}
use Rattle.pmb_bus.specs.declared.kinds.Kinds.{Kinds}
use Rattle.pmb_command.specs.Bus.{IsBus}
use Rattle.pmb_command.specs.Parts.{DeviceParts}
use Rattle.pmb_transaction.specs.declared.reason.Reason.{Reason}
use Rattle.pmb_transaction.specs.declared.reason.Reason.TheVariants.{TooShort, Truncated, WrongEvent}
use Rattle.pmb_transaction.specs.Capture.{MayFollow}
use Rattle.pmb_transaction.specs.Reason.{AckReason, ByteReason, IsReason, NackReason, Whether, SomeByteMayFollow}
use Rattle.pmb_transaction.specs.Reason.{FollowsAlone}
use Rattle.pmb_transaction.specs.Reading.{IsUnderWay, Outcome, Accepted, ReadsAfterStop, ReadsFrom, Refusal}
use Rattle.pmb_transaction.specs.Reading.{RefusalData, RefusedAt, TruncatedAt}
use Rattle.pmb_transaction.proofs.Captures.{not_none}
use Rattle.pmb_transaction.proofs.Decided.{Decided}
use Rattle.pmb_transaction.proofs.DecidedPackets.{same_event}
use Rattle.pmb_transaction.proofs.Ends.{packet_with_stop, packets_go_on}
use Rattle.pmb_transaction.proofs.FinitePackets.{follows_alone, may_follow, some_byte}
use Rattle.pmb_transaction.proofs.KindSets.{set_of_kinds}
use Rattle.pmb_transaction.proofs.PassedOver.{none_passed, other_passed, stop_passed}
use Rattle.pmb_transaction.proofs.SomeReason.{ack_has_reason, byte_has_reason, nack_has_reason}

-- ---- reasons

one_of_both : (Holds : Type 0) (Told : Reason → Type 0) → (Holds → (reason : Reason) × Told reason) → Decided Holds
    → (reason : Reason) × Whether Holds (Told reason) (reason ≡ WrongEvent)
one_of_both Holds Told some (inl holds) = let told = some holds in (told.0, inl (holds, told.1))
one_of_both Holds Told some (inr fails) = (WrongEvent, inr (fails, refl))

module _ (pec_is_byte : (bytes : List ℕ) → pec bytes < 256) (profile : List DeviceParts) (bus : IsBus profile) where
  pub some_reason : (events : List Event) (event : Event) → (reason : Reason) × IsReason profile events event reason
  some_reason events Start = (WrongEvent, refl)
  some_reason events Stop = (WrongEvent, refl)
  some_reason events (Byte b) =
      one_of_both (SomeByteMayFollow profile events) (ByteReason events) (byte_has_reason profile events)
      (some_byte pec_is_byte profile bus events)
  some_reason events Ack =
      one_of_both (FollowsAlone profile events Nack) (AckReason events) (ack_has_reason pec_is_byte profile bus events)
      (follows_alone pec_is_byte profile bus events Nack)
  some_reason events Nack =
      one_of_both (FollowsAlone profile events Ack) (NackReason events)
      (λ alone. (TooShort, nack_has_reason pec_is_byte profile bus events alone))
      (follows_alone pec_is_byte profile bus events Ack)

  some_kinds : (events : List Event) → (kinds : Kinds) × AreKindsOf (MayFollow profile events) kinds
  some_kinds events =
      let follows = may_follow pec_is_byte profile bus events in
      set_of_kinds (MayFollow profile events) (follows Start) (some_byte pec_is_byte profile bus events) (follows Ack)
      (follows Nack) (follows Stop)

  -- ---- packets under way

  nothing_under_way : IsUnderWay profile []
  nothing_under_way = record {
    viable = inl refl;
    no_packet = λ front rest split packet. not_none profile packet.0 front rest packet.1 split;
  }

  -- ---- readings

  -- after the events of a packet under way, and while events are passed over
  abbrev ReadsOn : List Event → Type 0
  ReadsOn rest =
      (n : ℕ) (front : List Event) → IsUnderWay profile front
      → (outcomes : List Outcome) × ReadsFrom profile n (front ++ rest) outcomes

  abbrev PassesOn : List Event → Type 0
  PassesOn rest = (n : ℕ) → (outcomes : List Outcome) × ReadsAfterStop profile n rest outcomes

  -- the refusal of events that end inside a packet
  pub truncation : (n : ℕ) (front : List Event) → front ≢ [] → IsUnderWay profile front
      → (refusal : RefusalData) × TruncatedAt profile n front refusal
  truncation n front some going =
      let kinds = some_kinds front in (
        record { at = capped (n + length front); reason = Truncated; expected = kinds.0 },
        record { some = some; under_way = going; at = refl; reason = refl; expected = kinds.1 },
      )

  reads_end : ReadsOn []
  reads_end n [] going = ([], refl)
  reads_end n (event ∷ events) going =
      let front = event ∷ events in
      let end = truncation n front (λ none. cc none) going in (
        Refusal end.0 ∷ [],
        subst (λ (es : List Event). ReadsFrom profile n es (Refusal end.0 ∷ [])) (sym (append-nil front))
            (inr (end.1, refl)),
      )

  passes_end : PassesOn []
  passes_end n = ([], ([], [], none_passed, refl))

  passes_one : (event : Event) (rest : List Event) → ReadsOn rest → PassesOn rest → Decided (event ≡ Stop)
      → PassesOn (event ∷ rest)
  passes_one event rest reads passes (inl stop) n =
      let later = reads (n + length (Stop ∷ [])) [] nothing_under_way in (
        later.0,
        subst (λ e. ReadsAfterStop profile n (e ∷ rest) later.0) (sym stop)
            (Stop ∷ [], rest, stop_passed rest, later.1),
      )
  passes_one event rest reads passes (inr other) n =
      let later = passes (n + 1) in
      let over = later.1 in
      let counted : (n + 1) + length over.0 ≡ n + length (event ∷ over.0) = omega arith in (
        later.0,
        (
          event ∷ over.0,
          over.1,
          other_passed event rest over.0 over.1 other over.2,
          subst (λ m. ReadsFrom profile m over.1 later.0) counted over.3,
        ),
      )

  -- an event that may follow, or is refused
  accepts : (rest : List Event) → ReadsOn rest → (n : ℕ) (front : List Event) → MayFollow profile front Stop
      → (outcomes : List Outcome) × ReadsFrom profile n (front ++ Stop ∷ rest) outcomes
  accepts rest reads n front follows =
      let packet = packet_with_stop profile front follows in
      let all = front ++ Stop ∷ [] in
      let behind = reads (n + length all) [] nothing_under_way in
      (Accepted packet.0 ∷ behind.0, (all, rest, sym (append_assoc front (Stop ∷ []) rest), packet.1, behind.1))

  goes_on : (event : Event) (rest : List Event) → ReadsOn rest → (event ≡ Stop → ⊥) → (n : ℕ) (front : List Event)
      → MayFollow profile front event
      → (outcomes : List Outcome) × ReadsFrom profile n (front ++ event ∷ rest) outcomes
  goes_on event rest reads other n front follows =
      let later = reads n (front ++ event ∷ []) (packets_go_on profile front event follows other) in
      (later.0, subst (λ es. ReadsFrom profile n es later.0) (append_assoc front (event ∷ []) rest) later.1)

  refuses : (event : Event) (rest : List Event) → PassesOn (event ∷ rest) → (n : ℕ) (front : List Event)
      → IsUnderWay profile front
      → (MayFollow profile front event → ⊥) → (outcomes : List Outcome)
      × ReadsFrom profile n (front ++ event ∷ rest) outcomes
  refuses event rest passes n front going refused =
      let kinds = some_kinds front in
      let reason = some_reason front event in
      let refusal : RefusalData = record { at = capped (n + length front); reason = reason.0; expected = kinds.0 } in
      let at_event : RefusedAt profile n front event refusal =
      record { under_way = going; refused = refused; at = refl; reason = reason.1; expected = kinds.1 } in
      let later = passes (n + length front) in
      let over = later.1 in
      (Refusal refusal ∷ later.0, inl (front, event, rest, refl, at_event, over.0, over.1, over.2, over.3))

  reads_one : (event : Event) (rest : List Event) → ReadsOn rest → PassesOn (event ∷ rest) → Decided (event ≡ Stop)
      → (n : ℕ) (front : List Event)
      → IsUnderWay profile front → Decided (MayFollow profile front event)
      → (outcomes : List Outcome) × ReadsFrom profile n (front ++ event ∷ rest) outcomes
  reads_one event rest reads passes stop n front going (inr refused) = refuses event rest passes n front going refused
  reads_one event rest reads passes (inr other) n front going (inl follows) =
      goes_on event rest reads other n front follows
  reads_one event rest reads passes (inl stop) n front going (inl follows) =
      let read = accepts rest reads n front (subst (MayFollow profile front) stop follows) in
      (read.0, subst (λ e. ReadsFrom profile n (front ++ e ∷ rest) read.0) (sym stop) read.1)

  some_of_both : (events : List Event) → ReadsOn events × PassesOn events
  some_of_both [] = (reads_end, passes_end)
  some_of_both (event ∷ rest) =
      let later = some_of_both rest in
      let stop = same_event event Stop in
      let passes = passes_one event rest later.0 later.1 stop in (
        λ n front going. reads_one event rest later.0 passes stop n front going
            (may_follow pec_is_byte profile bus front event),
        passes,
      )

  pub each_list_has_a_reading : (n : ℕ) (events : List Event)
      → (outcomes : List Outcome) × ReadsFrom profile n events outcomes
  each_list_has_a_reading n events = (some_of_both events).0 n [] nothing_under_way
