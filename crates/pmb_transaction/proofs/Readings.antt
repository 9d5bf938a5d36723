-- A list of events has one reading at most, and a capture reads as its transactions. For the laws
-- `one_reading`, `captures_read_as_written`, `nothing_is_read_of_no_events` and
-- `fronts_are_viable`. Two readings are compared outcome by outcome: a packet at the front is the
-- same in both, and a refusal comes at the first event that may not follow, which is one place with
-- one reason (OneReason) and one set of kinds.
use Rattle.std.proofs.Common.{◌≡◌, ℕ, ◌+◌, ◌<◌, ◌⊎◌, inl, inr, Bool, true, false, List, [], ◌∷◌, ◌++◌, length, map}
use Rattle.std.proofs.Common.{refl, sym, ap, ◌∙◌, subst, append_assoc}
use Rattle.std.proofs.lemmas.List.{append-nil, append_cancel_left}
use Rattle.pmb_bus.specs.declared.event.Event.{Event}
use Rattle.pmb_bus.specs.declared.event.Event.TheVariants.{Start, Byte, Ack, Nack, Stop}
use Rattle.pmb_bus.specs.declared.kinds.Kinds.{Kinds}
use Rattle.pmb_bus.specs.Kinds.{AreKindsOf, bits, holds, kind_of}
use Rattle.pmb_command.specs.Bus.{IsBus}
use Rattle.pmb_command.specs.Parts.{DeviceParts}
use Rattle.pmb_transaction.specs.declared.reason.Reason.{Reason}
use Rattle.pmb_transaction.specs.Transaction.{TransactionData}
use Rattle.pmb_transaction.specs.Packet.{Packet}
use Rattle.pmb_transaction.specs.Capture.{Capture, IsPacket, MayFollow, Viable}
use Rattle.pmb_transaction.specs.Reading.{Outcome, Accepted, Refusal, RefusalData, PassedOver, ReadsFrom, RefusedAt}
use Rattle.pmb_transaction.specs.Reading.{TruncatedAt}
use Rattle.pmb_transaction.proofs.Captures.{not_none, same_first_packet}
use Rattle.pmb_transaction.proofs.Fronts.{Beyond, Within, cut, no_end, no_front}
use Rattle.pmb_transaction.proofs.OneReason.{one_reason}
use Rattle.pmb_transaction.proofs.OneTransaction.{one_transaction}
use Rattle.pmb_transaction.proofs.PassedOver.{one_way}

-- ---- one set of kinds

-- two events of one kind are in the same sets
alike_of_kind : (kinds : Kinds) (a b : Event) → kind_of a ≡ kind_of b → holds kinds a ≡ true → holds kinds b ≡ true
alike_of_kind kinds Start Start same is = is
alike_of_kind kinds (Byte a) (Byte b) same is = is
alike_of_kind kinds Ack Ack same is = is
alike_of_kind kinds Nack Nack same is = is
alike_of_kind kinds Stop Stop same is = is
-- the other pairs are of two kinds
alike_of_kind kinds Start (Byte b) same is = absurd (cc same)
alike_of_kind kinds Start Ack same is = absurd (cc same)
alike_of_kind kinds Start Nack same is = absurd (cc same)
alike_of_kind kinds Start Stop same is = absurd (cc same)
alike_of_kind kinds (Byte a) Start same is = absurd (cc same)
alike_of_kind kinds (Byte a) Ack same is = absurd (cc same)
alike_of_kind kinds (Byte a) Nack same is = absurd (cc same)
alike_of_kind kinds (Byte a) Stop same is = absurd (cc same)
alike_of_kind kinds Ack Start same is = absurd (cc same)
alike_of_kind kinds Ack (Byte b) same is = absurd (cc same)
alike_of_kind kinds Ack Nack same is = absurd (cc same)
alike_of_kind kinds Ack Stop same is = absurd (cc same)
alike_of_kind kinds Nack Start same is = absurd (cc same)
alike_of_kind kinds Nack (Byte b) same is = absurd (cc same)
alike_of_kind kinds Nack Ack same is = absurd (cc same)
alike_of_kind kinds Nack Stop same is = absurd (cc same)
alike_of_kind kinds Stop Start same is = absurd (cc same)
alike_of_kind kinds Stop (Byte b) same is = absurd (cc same)
alike_of_kind kinds Stop Ack same is = absurd (cc same)
alike_of_kind kinds Stop Nack same is = absurd (cc same)

-- what holds in one set holds in the other
also_holds : (events : Event → Type 0) (a b : Kinds) → AreKindsOf events a → AreKindsOf events b → (event : Event)
    → holds a event ≡ true
    → holds b event ≡ true
also_holds events a b first second event is =
    let one = first.only event is in
    alike_of_kind b one.0 event one.1 (second.each one.0 one.2)

same_test : (a b : Bool) → (a ≡ true → b ≡ true) → (b ≡ true → a ≡ true) → a ≡ b
same_test true true there back = refl
same_test true false there back = sym (there refl)
same_test false true there back = back refl
same_test false false there back = refl

-- Sets of kinds are told by their events.
module _ (told_by_events : (a b : Kinds) → bits a < 32 → bits b < 32 → ((event : Event) → holds a event ≡ holds b event)
    → a ≡ b) where
  one_set : (events : Event → Type 0) (a b : Kinds) → AreKindsOf events a → AreKindsOf events b → a ≡ b
  one_set events a b first second =
      told_by_events a b first.known second.known
      (λ event.
      same_test (holds a event) (holds b event) (also_holds events a b first second event)
      (also_holds events b a second first event))

module _ (profile : List DeviceParts) where
  -- ---- fronts

  -- what begins viable events is viable
  pub front_is_viable : (a b : List Event) → Viable profile (a ++ b) → Viable profile a
  front_is_viable a b (inl none) = inl (no_front a b none)
  front_is_viable a b (inr w) = inr (b ++ w.0, subst (IsPacket profile) (append_assoc a b w.0) w.1)

  -- so the event after a front of viable events may follow it
  pub may_follow : (front : List Event) (event : Event) (rest events : List Event) → events ≡ front ++ event ∷ rest
      → Viable profile events
      → MayFollow profile front event
  may_follow front event rest events split viable =
      front_is_viable (front ++ event ∷ []) rest
      (subst (Viable profile) (split ∙ sym (append_assoc front (event ∷ []) rest)) viable)

  -- no refused event stands in viable events
  not_refused_in : (n : ℕ) (front : List Event) (event : Event) (refusal : RefusalData) (rest events : List Event)
      → RefusedAt profile n front event refusal
      → events ≡ front ++ event ∷ rest → Viable profile events → ⊥
  not_refused_in n front event refusal rest events refused split viable =
      refused.refused (may_follow front event rest events split viable)

  -- events that a packet begins are not refused
  not_refused_at : (t : TransactionData) (n : ℕ) (first behind front : List Event) (event : Event) (rest : List Event)
      (refusal : RefusalData)
      → Packet profile t first → RefusedAt profile n front event refusal
      → Within first behind front (event ∷ rest) ⊎ Beyond first behind front (event ∷ rest) → ⊥
  not_refused_at t n first behind front event rest refusal packet refused (inl w) =
      refused.under_way.no_packet first w.rest w.first (t, packet)
  not_refused_at t n first behind front event rest refusal packet refused (inr w) =
      let same : w.event ≡ event = cc (w.second) in
      not_refused_in n front event refusal w.rest first refused (w.first ∙ ap (λ (e : Event). front ++ e ∷ w.rest) same)
      (inr ([], (t, subst (Packet profile t) (sym (append-nil first)) packet)))

  not_refused : (t : TransactionData) (n : ℕ) (first behind front : List Event) (event : Event)
      (rest events : List Event) (refusal : RefusalData)
      → Packet profile t first → RefusedAt profile n front event refusal → events ≡ first ++ behind
      → events ≡ front ++ event ∷ rest → ⊥
  not_refused t n first behind front event rest events refusal packet refused split other =
      not_refused_at t n first behind front event rest refusal packet refused
      (cut first behind front (event ∷ rest) (sym split ∙ other))

  -- ---- one refusal

  place_within : (n : ℕ) (a b : List Event) (d e : Event) (x y : List Event) (r : RefusalData)
      → RefusedAt profile n a d r → Viable profile b
      → (rest : List Event) → b ≡ a ++ rest → d ∷ x ≡ rest ++ e ∷ y → a ≡ b
  place_within n a b d e x y r refused viable [] split same = sym (append-nil a) ∙ sym split
  place_within n a b d e x y r refused viable (f ∷ rest) split same =
      let first : f ≡ d = cc same in
      absurd (not_refused_in n a d r rest b refused (split ∙ ap (λ (event : Event). a ++ event ∷ rest) first) viable)

  same_place_at : (n : ℕ) (a b : List Event) (d e : Event) (x y : List Event) (r s : RefusalData)
      → RefusedAt profile n a d r → RefusedAt profile n b e s
      → Within a (d ∷ x) b (e ∷ y) ⊎ Beyond a (d ∷ x) b (e ∷ y) → a ≡ b
  same_place_at n a b d e x y r s first second (inl w) =
      place_within n a b d e x y r first second.under_way.viable w.rest w.first w.second
  same_place_at n a b d e x y r s first second (inr w) =
      let event : w.event ≡ e = cc (w.second) in
      let split : a ≡ b ++ e ∷ w.rest = w.first ∙ ap (λ (f : Event). b ++ f ∷ w.rest) event in
      absurd (not_refused_in n b e s w.rest a second split first.under_way.viable)

  -- events are refused at one place
  same_place : (n : ℕ) (a b : List Event) (d e : Event) (x y events : List Event) (r s : RefusalData)
      → RefusedAt profile n a d r
      → RefusedAt profile n b e s → events ≡ a ++ d ∷ x → events ≡ b ++ e ∷ y → a ≡ b
  same_place n a b d e x y events r s first second split other =
      same_place_at n a b d e x y r s first second (cut a (d ∷ x) b (e ∷ y) (sym split ∙ other))

  -- a refusal of its parts
  abbrev refusal_of : ℕ → Reason → Kinds → RefusalData
  refusal_of at reason expected = record { at = at; reason = reason; expected = expected }

  same_refusal : (r s : RefusalData) → r.at ≡ s.at → r.reason ≡ s.reason → r.expected ≡ s.expected → r ≡ s
  same_refusal r s at reason expected =
      ap (λ (n : ℕ). refusal_of n r.reason r.expected) at
      ∙ ap (λ (x : Reason). refusal_of s.at x r.expected) reason
      ∙ ap (λ (k : Kinds). refusal_of s.at s.reason k) expected

  -- ---- readings

  -- a capture reads as its transactions
  pub reads_capture : (ts : List TransactionData) (n : ℕ) (events : List Event) → Capture profile ts events
      → ReadsFrom profile n events (map Accepted ts)
  reads_capture [] n events capture = capture
  reads_capture (t ∷ ts) n events capture =
      (capture.0, capture.1, capture.2, capture.3, reads_capture ts (n + length capture.0) capture.1 capture.4)

  -- no events read as nothing
  pub none_read : (n : ℕ) (outcomes : List Outcome) → ReadsFrom profile n [] outcomes → outcomes ≡ []
  none_read n [] reads = refl
  none_read n (Accepted t ∷ more) reads = absurd (not_none profile t reads.0 reads.1 reads.3 reads.2)
  none_read n (Refusal refusal ∷ more) (inl reads) = absurd (no_end reads.0 reads.1 reads.2 (sym reads.3))
  none_read n (Refusal refusal ∷ more) (inr reads) = absurd (reads.0.some refl)

  module _ (told_by_events : (a b : Kinds) → bits a < 32 → bits b < 32
      → ((event : Event) → holds a event ≡ holds b event) → a ≡ b) (bus : IsBus profile) where
    one_refused : (n : ℕ) (front : List Event) (event : Event) (r s : RefusalData) → RefusedAt profile n front event r
        → RefusedAt profile n front event s
        → r ≡ s
    one_refused n front event r s first second =
        same_refusal r s (first.at ∙ sym second.at)
        (one_reason profile front event r.reason s.reason first.reason second.reason)
        (one_set told_by_events (MayFollow profile front) r.expected s.expected first.expected second.expected)

    one_truncated : (n : ℕ) (events : List Event) (r s : RefusalData) → TruncatedAt profile n events r
        → TruncatedAt profile n events s → r ≡ s
    one_truncated n events r s first second =
        same_refusal r s (first.at ∙ sym second.at) (first.reason ∙ sym second.reason)
        (one_set told_by_events (MayFollow profile events) r.expected s.expected first.expected second.expected)

    -- events read as one list of outcomes
    -- a and b are the parts of the two readings, numbered as in ReadsFrom: for a packet its events,
    -- the others, the split, the packet and the rest; for a refusal the events before it, the
    -- event, the others, the split and the refusal, then what is passed over and left, and the rest
    pub one_reading_from : (first second : List Outcome) (n : ℕ) (events : List Event)
        → ReadsFrom profile n events first
        → ReadsFrom profile n events second → first ≡ second
    -- no outcomes: there are no events
    one_reading_from [] [] n events a b = refl
    one_reading_from [] (Accepted u ∷ more) n events a b = absurd (not_none profile u b.0 b.1 b.3 (sym a ∙ b.2))
    one_reading_from [] (Refusal s ∷ more) n events a (inl b) = absurd (no_end b.0 b.1 b.2 (sym b.3 ∙ a))
    one_reading_from [] (Refusal s ∷ more) n events a (inr b) = absurd (b.0.some a)
    one_reading_from (Accepted t ∷ more) [] n events a b = absurd (not_none profile t a.0 a.1 a.3 (sym b ∙ a.2))
    one_reading_from (Refusal r ∷ more) [] n events (inl a) b = absurd (no_end a.0 a.1 a.2 (sym a.3 ∙ b))
    one_reading_from (Refusal r ∷ more) [] n events (inr a) b = absurd (a.0.some b)
    -- two packets at the front are the same, so the rest is too
    one_reading_from (Accepted t ∷ more) (Accepted u ∷ others) n events a b =
        let same = same_first_packet profile t u a.0 b.0 a.1 b.1 a.3 b.3 (sym a.2 ∙ b.2) in
        let first : t ≡ u = one_transaction profile t u b.0 bus (subst (Packet profile t) same.0 a.3) b.3 in
        let counted : ReadsFrom profile (n + length b.0) a.1 more =
        subst (λ (front : List Event). ReadsFrom profile (n + length front) a.1 more) same.0 a.4 in
        let later : more ≡ others =
        one_reading_from more others (n + length b.0) b.1
        (subst (λ (rest : List Event). ReadsFrom profile (n + length b.0) rest more) same.1 counted) b.4 in
        cc (first, later)
    -- a packet's events are not refused, and none is inside of events under way
    one_reading_from (Accepted t ∷ more) (Refusal s ∷ others) n events a (inl b) =
        absurd (not_refused t n a.0 a.1 b.0 b.1 b.2 events s a.3 b.4 a.2 b.3)
    one_reading_from (Accepted t ∷ more) (Refusal s ∷ others) n events a (inr b) =
        absurd (b.0.under_way.no_packet a.0 a.1 a.2 (t, a.3))
    one_reading_from (Refusal r ∷ more) (Accepted u ∷ others) n events (inl a) b =
        absurd (not_refused u n b.0 b.1 a.0 a.1 a.2 events r b.3 a.4 b.2 a.3)
    one_reading_from (Refusal r ∷ more) (Accepted u ∷ others) n events (inr a) b =
        absurd (a.0.under_way.no_packet b.0 b.1 b.2 (u, b.3))
    -- two refusals: the same place, so the same event, the same refusal, and the same events passed
    -- over
    one_reading_from (Refusal r ∷ more) (Refusal s ∷ others) n events (inl a) (inl b) =
        let front : a.0 ≡ b.0 = same_place n a.0 b.0 a.1 b.1 a.2 b.2 events r s a.4 b.4 a.3 b.3 in
        let tails : a.1 ∷ a.2 ≡ b.1 ∷ b.2 =
        append_cancel_left b.0 (a.1 ∷ a.2) (b.1 ∷ b.2)
        (ap (λ (es : List Event). es ++ a.1 ∷ a.2) (sym front) ∙ sym a.3 ∙ b.3) in
        let event : a.1 ≡ b.1 = cc tails in
        let refused : RefusedAt profile n b.0 b.1 r =
        subst (λ (e : Event). RefusedAt profile n b.0 e r) event
        (subst (λ (es : List Event). RefusedAt profile n es a.1 r) front a.4) in
        let over = one_way (b.1 ∷ b.2) a.5 a.6 b.5 b.6 (subst (λ (es : List Event). PassedOver es a.5 a.6) tails a.7)
        b.7 in
        let counted : ReadsFrom profile (n + length b.0 + length b.5) a.6 more =
        subst (λ (passed : List Event). ReadsFrom profile (n + length b.0 + length passed) a.6 more) over.0
        (subst (λ (es : List Event). ReadsFrom profile (n + length es + length a.5) a.6 more) front a.8) in
        let first : r ≡ s = one_refused n b.0 b.1 r s refused b.4 in
        let later : more ≡ others =
        one_reading_from more others (n + length b.0 + length b.5) b.6
        (subst (λ (left : List Event). ReadsFrom profile (n + length b.0 + length b.5) left more) over.1 counted) b.8 in
        cc (first, later)
    -- events that end inside a packet hold no refused one
    one_reading_from (Refusal r ∷ more) (Refusal s ∷ others) n events (inl a) (inr b) =
        absurd (not_refused_in n a.0 a.1 r a.2 events a.4 a.3 b.0.under_way.viable)
    one_reading_from (Refusal r ∷ more) (Refusal s ∷ others) n events (inr a) (inl b) =
        absurd (not_refused_in n b.0 b.1 s b.2 events b.4 b.3 a.0.under_way.viable)
    -- two truncations
    one_reading_from (Refusal r ∷ more) (Refusal s ∷ others) n events (inr a) (inr b) =
        let first : r ≡ s = one_truncated n events r s a.0 b.0 in
        let later : more ≡ others = a.1 ∙ sym b.1 in
        cc (first, later)

    -- and a capture as its transactions alone
    pub captures_read_as_written : (ts : List TransactionData) (events : List Event) (outcomes : List Outcome)
        → Capture profile ts events
        → (ReadsFrom profile 0 events outcomes → outcomes ≡ map Accepted ts)
        × (outcomes ≡ map Accepted ts → ReadsFrom profile 0 events outcomes)
    captures_read_as_written ts events outcomes capture = (
      λ reads. one_reading_from outcomes (map Accepted ts) 0 events reads (reads_capture ts 0 events capture),
      λ same. subst (ReadsFrom profile 0 events) (sym same) (reads_capture ts 0 events capture),
    )
