-- The front of a capture of transactions reads as the first of these, and perhaps a truncation at
-- its end. For the law `fronts_read_as_fronts`. It goes packet by packet: the events end before, in
-- or after the next packet. What is found so is a reading, and events have one (Readings).
use Rattle.std.proofs.Common.{◌≡◌, ◌≢◌, ℕ, ◌+◌, ◌<◌, ◌⊎◌, inl, inr, List, [], ◌∷◌, ◌++◌, length, map, refl, sym, ap}
use Rattle.std.proofs.Common.{◌∙◌, subst, append_assoc, arith}
use Rattle.std.proofs.lemmas.List.{append-nil, length-append}
use Rattle.pmb_bus.specs.Kinds.{bits, holds}
use Rattle.pmb_bus.specs.Pec.{pec}
use Rattle.pmb_bus.specs.declared.event.Event.{Event}
use Rattle.pmb_bus.specs.declared.kinds.Kinds.{Kinds}
use Rattle.pmb_command.specs.Bus.{IsBus}
use Rattle.pmb_command.specs.Parts.{DeviceParts}
use Rattle.pmb_transaction.specs.Transaction.{TransactionData}
use Rattle.pmb_transaction.specs.Packet.{Packet}
use Rattle.pmb_transaction.specs.Capture.{Capture}
use Rattle.pmb_transaction.specs.Reading.{IsUnderWay, Outcome, Accepted, ReadsAsFront, ReadsFrom, Refusal, RefusalData}
use Rattle.pmb_transaction.specs.Reading.{TruncatedAt}
use Rattle.pmb_transaction.proofs.Fronts.{Beyond, Within, cut, no_end, no_front}
use Rattle.pmb_transaction.proofs.Readings.{one_reading_from}
use Rattle.pmb_transaction.proofs.SomeReading.{truncation}
use Rattle.pmb_transaction.proofs.Stops.{no_packet_begins_another}

module _ (pec_is_byte : (bytes : List ℕ) → pec bytes < 256) (profile : List DeviceParts) (bus : IsBus profile) where
  -- a reading as the first of some transactions
  abbrev FrontReading : ℕ → List TransactionData → List Event → Type 0
  FrontReading n ts events = (outcomes : List Outcome) × ReadsFrom profile n events outcomes
      × ReadsAsFront profile n ts events outcomes

  -- none of them
  reads_none : (n : ℕ) (ts : List TransactionData) (events : List Event) → events ≡ [] → FrontReading n ts events
  reads_none n ts events none = (
    [],
    none,
    record {
      done = [];
      others = ts;
      split = refl;
      whole = [];
      begun = [];
      cut = none;
      read = refl;
      end =
          inl (refl, refl);
    },
  )

  -- one whole packet
  reads_whole : (t : TransactionData) (ts : List TransactionData) (n : ℕ) (events : List Event)
      → Packet profile t events → FrontReading n (t ∷ ts) events
  reads_whole t ts n events packet =
      let all : events ≡ events ++ [] = sym (append-nil events) in (
        Accepted t ∷ [],
        (events, [], all, packet, refl),
        record {
          done = t ∷ [];
          others = ts;
          split = refl;
          whole = events;
          begun = [];
          cut = all;
          read = (events, [], all, packet, refl);
          end = inl (refl, refl);
        },
      )

  -- the beginning of a packet, and not all of it
  inside_packet : (t : TransactionData) (events : List Event) (next : Event) (rest : List Event)
      → Packet profile t (events ++ next ∷ rest)
      → IsUnderWay profile events
  inside_packet t events next rest packet = record {
    viable = inr (next ∷ rest, (t, packet));
    no_packet =
        λ front behind split other.
        let all : events ++ next ∷ rest ≡ front ++ (behind ++ next ∷ rest) =
        ap (λ (es : List Event). es ++ next ∷ rest) split ∙ append_assoc front behind (next ∷ rest) in
        no_end behind next rest
        (no_packet_begins_another profile other.0 t front (behind ++ next ∷ rest) other.1
        (subst (Packet profile t) all packet));
  }

  reads_part : (t : TransactionData) (ts : List TransactionData) (n : ℕ) (events : List Event) (next : Event)
      (rest : List Event)
      → Packet profile t (events ++ next ∷ rest) → FrontReading n (t ∷ ts) events
  reads_part t ts n [] next rest packet = reads_none n (t ∷ ts) [] refl
  reads_part t ts n (e ∷ es) next rest packet =
      let events = e ∷ es in
      let going = inside_packet t events next rest packet in
      let some : events ≢ [] = λ none. cc none in
      let last = truncation pec_is_byte profile bus n events some going in
      let here : n ≡ n + length {A = Event} [] = omega arith in (
        Refusal last.0 ∷ [],
        inr (last.1, refl),
        record {
          done = [];
          others = t ∷ ts;
          split = refl;
          whole = [];
          begun = events;
          cut = refl;
          read = refl;
          end = inr (last.0, subst (λ (m : ℕ). TruncatedAt profile m events last.0) here last.1, refl);
        },
      )

  reads_within : (t : TransactionData) (ts : List TransactionData) (n : ℕ) (events first rest : List Event)
      → first ≡ events ++ rest
      → Packet profile t first → FrontReading n (t ∷ ts) events
  reads_within t ts n events first [] split packet =
      reads_whole t ts n events (subst (Packet profile t) (split ∙ append-nil events) packet)
  reads_within t ts n events first (next ∷ rest) split packet =
      reads_part t ts n events next rest (subst (Packet profile t) split packet)

  -- a whole packet, and what is read after it
  end_behind : (t : TransactionData) (n : ℕ) (first whole begun : List Event) (done : List TransactionData)
      (outcomes : List Outcome)
      → ((begun ≡ []) × (outcomes ≡ map Accepted done))
      ⊎ ((refusal : RefusalData) × TruncatedAt profile ((n + length first) + length whole) begun refusal
      × (outcomes ≡ map Accepted done ++ Refusal refusal ∷ []))
      → ((begun ≡ []) × (Accepted t ∷ outcomes ≡ map Accepted (t ∷ done)))
      ⊎ ((refusal : RefusalData) × TruncatedAt profile (n + length (first ++ whole)) begun refusal
      × (Accepted t ∷ outcomes ≡ map Accepted (t ∷ done) ++ Refusal refusal ∷ []))
  end_behind t n first whole begun done outcomes (inl w) = inl (w.0, ap (λ (os : List Outcome). Accepted t ∷ os) w.1)
  end_behind t n first whole begun done outcomes (inr w) =
      let counted : (n + length first) + length whole ≡ n + length (first ++ whole) =
      omega (arith, length-append first whole) in
      inr (
        w.0,
        subst (λ (m : ℕ). TruncatedAt profile m begun w.0) counted w.1,
        ap (λ (os : List Outcome). Accepted t ∷ os) w.2,
      )

  reads_beyond : (t : TransactionData) (ts : List TransactionData) (n : ℕ) (events first behind : List Event)
      → events ≡ first ++ behind
      → Packet profile t first → FrontReading (n + length first) ts behind → FrontReading n (t ∷ ts) events
  reads_beyond t ts n events first behind split packet later =
      let w = later.2 in (
        Accepted t ∷ later.0,
        (first, behind, split, packet, later.1),
        record {
          done = t ∷ w.done;
          others = w.others;
          split = ap (λ (us : List TransactionData). t ∷ us) w.split;
          whole = first ++ w.whole;
          begun = w.begun;
          cut = split ∙ ap (λ (es : List Event). first ++ es) w.cut ∙ sym (append_assoc first w.whole w.begun);
          read = (first, w.whole, refl, packet, w.read);
          end = end_behind t n first w.whole w.begun w.done later.0 w.end;
        },
      )

  front_at : (t : TransactionData) (ts : List TransactionData) (n : ℕ) (events more first rest : List Event)
      → Packet profile t first
      → ((behind : List Event) → rest ≡ behind ++ more → FrontReading (n + length first) ts behind)
      → Within events more first rest ⊎ Beyond events more first rest → FrontReading n (t ∷ ts) events
  front_at t ts n events more first rest packet later (inl w) = reads_within t ts n events first w.rest w.first packet
  front_at t ts n events more first rest packet later (inr w) =
      reads_beyond t ts n events first (w.event ∷ w.rest) w.first packet (later (w.event ∷ w.rest) w.second)

  front_reading : (ts : List TransactionData) (n : ℕ) (events more : List Event) → Capture profile ts (events ++ more)
      → FrontReading n ts events
  front_reading [] n events more capture = reads_none n [] events (no_front events more capture)
  front_reading (t ∷ ts) n events more capture =
      front_at t ts n events more capture.0 capture.1 capture.3
      (λ behind same. front_reading ts (n + length capture.0) behind more (subst (Capture profile ts) same capture.4))
      (cut events more capture.0 capture.1 capture.2)

  pub fronts_read_as_fronts : ((a b : Kinds) → bits a < 32 → bits b < 32
      → ((event : Event) → holds a event ≡ holds b event) → a ≡ b)
      → (ts : List TransactionData) (events more : List Event) (outcomes : List Outcome)
      → Capture profile ts (events ++ more)
      → ReadsFrom profile 0 events outcomes → ReadsAsFront profile 0 ts events outcomes
  fronts_read_as_fronts told_by_events ts events more outcomes capture reads =
      let front = front_reading ts 0 events more capture in
      subst (ReadsAsFront profile 0 ts events)
      (one_reading_from profile told_by_events bus front.0 outcomes 0 events front.1 reads) front.2
