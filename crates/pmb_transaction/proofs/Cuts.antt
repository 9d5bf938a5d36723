-- A capture that is cut after a STOP reads as its two pieces do, the places of the second moved by
-- the length of the first. For the laws `captures_may_be_cut_behind_stop` and `refusals_move`.
-- Events that end with STOP leave no packet under way, so none of their outcomes is a truncation;
-- the readings are joined outcome by outcome, and there is no other reading.
use Rattle.std.proofs.Common.{◌≡◌, ℕ, ◌+◌, ◌<◌, ◌⊎◌, inl, inr, List, [], ◌∷◌, ◌++◌, length, sym, ap, ◌∙◌, subst}
use Rattle.std.proofs.Common.{append_assoc, arith}
use Rattle.std.specs.List.{All}
use Rattle.std.proofs.lemmas.List.{append-nil, length-append}
use Rattle.std.proofs.lemmas.List.Elements.{All-cons, All-nil}
use Rattle.pmb_bus.specs.Count.{capped}
use Rattle.pmb_bus.specs.Kinds.{bits, holds}
use Rattle.pmb_bus.specs.Pec.{pec}
use Rattle.pmb_bus.specs.declared.event.Event.{Event}
use Rattle.pmb_bus.specs.declared.event.Event.TheVariants.{Stop}
use Rattle.pmb_bus.specs.declared.kinds.Kinds.{Kinds}
use Rattle.pmb_command.specs.Bus.{IsBus}
use Rattle.pmb_command.specs.Parts.{DeviceParts}
use Rattle.pmb_transaction.specs.Capture.{HasNoStop, Viable}
use Rattle.pmb_transaction.specs.Reading.{Accepted, Outcome, ReadsFrom, Refusal, RefusalData, RefusedAt, TruncatedAt}
use Rattle.pmb_transaction.specs.Cut.{EndsWithStop, IsNotTruncated, moved, moved_refusal}
use Rattle.pmb_transaction.proofs.Ends.{packet_with_stop}
use Rattle.pmb_transaction.proofs.PassedOver.{more_left, passed_then_left}
use Rattle.pmb_transaction.proofs.Fronts.{Beyond, Within, cut}
use Rattle.pmb_transaction.proofs.OneReason.{no_truncation}
use Rattle.pmb_transaction.proofs.Readings.{one_reading_from}
use Rattle.pmb_transaction.proofs.SomeReading.{each_list_has_a_reading}

-- ---- places

-- a place that stays at the greatest u64 stays there further on
moved_place : (n m : ℕ) → capped (n + capped m) ≡ capped (n + m)
moved_place n m = omega arith

-- ---- ends

-- no events, or such as end with STOP
abbrev EndsOn : List Event → Type 0
EndsOn events = (events ≡ []) ⊎ EndsWithStop events

none_behind : (front rest : List Event) → front ++ rest ≡ [] → rest ≡ []
none_behind [] rest none = none
none_behind (event ∷ front) rest none = absurd (cc none)

-- one STOP, cut in two
stop_in_two : (front rest : List Event) → Stop ∷ [] ≡ front ++ rest → EndsOn rest
stop_in_two [] rest same = inr (record { front = []; split = sym same })
stop_in_two (event ∷ front) rest same = inl (none_behind front rest (sym (cc same)))

rest_at : (before front rest : List Event) → Within before (Stop ∷ []) front rest ⊎ Beyond before (Stop ∷ []) front rest
    → EndsOn rest
rest_at before front rest (inl w) = stop_in_two w.rest rest w.second
rest_at before front rest (inr w) = inr (record { front = w.event ∷ w.rest; split = w.second })

-- what is left after a front of them ends so too
rest_ends : (front rest events : List Event) → EndsOn events → events ≡ front ++ rest → EndsOn rest
rest_ends front rest events (inl none) split = inl (none_behind front rest (sym split ∙ none))
rest_ends front rest events (inr ends) split =
    rest_at ends.front front rest (cut ends.front (Stop ∷ []) front rest (sym ends.split ∙ split))

-- where there are some, one of them is STOP
some_stop : (event : Event) (events : List Event) → EndsOn (event ∷ events) → HasNoStop (event ∷ events) → ⊥
some_stop event events (inl none) no_stop = cc none
some_stop event events (inr ends) no_stop = no_stop ends.front [] ends.split

module _ (profile : List DeviceParts) where
  -- ---- further on

  pub refused_moved : (n m : ℕ) (front : List Event) (event : Event) (refusal : RefusalData)
      → RefusedAt profile m front event refusal
      → RefusedAt profile (n + m) front event (moved_refusal n refusal)
  refused_moved n m front event refusal refused =
      let counted : n + (m + length front) ≡ (n + m) + length front = omega arith in record {
        under_way = refused.under_way;
        refused = refused.refused;
        at = ap (λ (k : ℕ). capped (n + k)) refused.at ∙ moved_place n (m + length front) ∙ ap capped counted;
        reason = refused.reason;
        expected = refused.expected;
      }

  pub truncated_moved : (n m : ℕ) (events : List Event) (refusal : RefusalData) → TruncatedAt profile m events refusal
      → TruncatedAt profile (n + m) events (moved_refusal n refusal)
  truncated_moved n m events refusal truncated =
      let counted : n + (m + length events) ≡ (n + m) + length events = omega arith in record {
        some = truncated.some;
        under_way = truncated.under_way;
        at = ap (λ (k : ℕ). capped (n + k)) truncated.at ∙ moved_place n (m + length events) ∙ ap capped counted;
        reason = truncated.reason;
        expected = truncated.expected;
      }

  -- events after n more read as the same, moved
  reads_moved : (n : ℕ) (outcomes : List Outcome) (m : ℕ) (events : List Event) → ReadsFrom profile m events outcomes
      → ReadsFrom profile (n + m) events (moved n outcomes)
  reads_moved n [] m events reads = reads
  reads_moved n (Accepted t ∷ more) m events reads =
      let counted : n + (m + length reads.0) ≡ (n + m) + length reads.0 = omega arith in
      let later = reads_moved n more (m + length reads.0) reads.1 reads.4 in
      (reads.0, reads.1, reads.2, reads.3, subst (λ (k : ℕ). ReadsFrom profile k reads.1 (moved n more)) counted later)
  reads_moved n (Refusal refusal ∷ more) m events (inl reads) =
      let counted : n + (m + length reads.0 + length reads.5) ≡ (n + m) + length reads.0 + length reads.5 =
      omega arith in
      let later = reads_moved n more (m + length reads.0 + length reads.5) reads.6 reads.8 in
      inl (
        reads.0,
        reads.1,
        reads.2,
        reads.3,
        refused_moved n m reads.0 reads.1 refusal reads.4,
        reads.5,
        reads.6,
        reads.7,
        subst (λ (k : ℕ). ReadsFrom profile k reads.6 (moved n more)) counted later,
      )
  reads_moved n (Refusal refusal ∷ more) m events (inr reads) =
      inr (truncated_moved n m events refusal reads.0, ap (moved n) reads.1)

  -- ---- both

  -- what ends with STOP is whole
  not_truncated : (n : ℕ) (events : List Event) (refusal : RefusalData) → EndsOn events
      → TruncatedAt profile n events refusal → ⊥
  not_truncated n events refusal (inl none) truncated = truncated.some none
  not_truncated n events refusal (inr ends) truncated =
      let going = truncated.under_way in
      let all = ends.front ++ Stop ∷ [] in
      going.no_packet all [] (ends.split ∙ sym (append-nil all))
      (packet_with_stop profile ends.front (subst (Viable profile) ends.split going.viable))

  -- The readings of two pieces, joined. A reading's parts are numbered as in ReadsFrom: for a
  -- packet its events, the others, the split, the packet and the rest; for a refusal the events
  -- before it, the event, the others, the split, the refusal, then what is passed over and what is
  -- left.
  joined_from : (outcomes others : List Outcome) (n : ℕ) (first second : List Event) → EndsOn first
      → ReadsFrom profile n first outcomes
      → ReadsFrom profile (n + length first) second others → ReadsFrom profile n (first ++ second) (outcomes ++ others)
  -- no outcome: the first piece is empty
  joined_from [] others n first second ends none reads =
      let nothing : n + length {A = Event} [] ≡ n = omega arith in
      let counted : n + length first ≡ n = ap (λ (es : List Event). n + length es) none ∙ nothing in
      subst (λ (es : List Event). ReadsFrom profile n (es ++ second) others) (sym none)
      (subst (λ (k : ℕ). ReadsFrom profile k second others) counted reads)
  -- a packet at the front: the rest of the first piece is joined
  joined_from (Accepted t ∷ more) others n first second ends w reads =
      let split : first ≡ w.0 ++ w.1 = w.2 in
      let all : length first ≡ length w.0 + length w.1 = ap length split ∙ length-append w.0 w.1 in
      let counted : n + length first ≡ (n + length w.0) + length w.1 = omega (arith, all) in (
        w.0,
        w.1 ++ second,
        ap (λ (es : List Event). es ++ second) split ∙ append_assoc w.0 w.1 second,
        w.3,
        joined_from more others (n + length w.0) w.1 second (rest_ends w.0 w.1 first ends split) w.4
            (subst (λ (k : ℕ). ReadsFrom profile k second others) counted reads),
      )
  -- a refusal: what is passed over ends with a STOP of the first piece
  joined_from (Refusal refusal ∷ more) others n first second ends (inl w) reads =
      let refused = w.1 ∷ w.2 in
      let split : first ≡ w.0 ++ refused = w.3 in
      let over : refused ≡ w.5 ++ w.6 = passed_then_left refused w.5 w.6 w.7 in
      let refused_ends : EndsOn refused = rest_ends w.0 refused first ends split in
      let all : length first ≡ length w.0 + length refused = ap length split ∙ length-append w.0 refused in
      let refused_all : length refused ≡ length w.5 + length w.6 = ap length over ∙ length-append w.5 w.6 in
      let counted : n + length first ≡ (n + length w.0 + length w.5) + length w.6 = omega (arith, all, refused_all) in
      -- the second piece goes after what is left
      inl (
        w.0,
        w.1,
        w.2 ++ second,
        ap (λ (es : List Event). es ++ second) split ∙ append_assoc w.0 refused second,
        w.4,
        w.5,
        w.6 ++ second,
        more_left refused second w.5 w.6 (some_stop w.1 w.2 refused_ends) w.7,
        joined_from more others (n + length w.0 + length w.5) w.6 second (rest_ends w.5 w.6 refused refused_ends over)
            w.8
            (subst (λ (k : ℕ). ReadsFrom profile k second others) counted reads),
      )
  -- no packet is under way at the end of the first piece
  joined_from (Refusal refusal ∷ more) others n first second ends (inr w) reads =
      absurd (not_truncated n first refusal ends w.0)

  pub joined : (first second : List Event) (outcomes others : List Outcome) → EndsWithStop first
      → ReadsFrom profile 0 first outcomes
      → ReadsFrom profile 0 second others → ReadsFrom profile 0 (first ++ second)
      (outcomes ++ moved (length first) others)
  joined first second outcomes others ends reads behind =
      let n = length first in
      let counted : n + 0 ≡ 0 + n = omega arith in
      joined_from outcomes (moved n others) 0 first second (inr ends) reads
      (subst (λ (k : ℕ). ReadsFrom profile k second (moved n others)) counted (reads_moved n others 0 second behind))

  -- ---- no truncation

  not_at : (n : ℕ) (front : List Event) (event : Event) (refusal : RefusalData)
      → RefusedAt profile n front event refusal
      → IsNotTruncated (Refusal refusal)
  not_at n front event refusal refused other same truncated =
      let one : refusal ≡ other = cc same in
      no_truncation profile front event refusal.reason refused.reason
      (ap (λ (r : RefusalData). r.reason) one ∙ truncated)

  whole_from : (outcomes : List Outcome) (n : ℕ) (events : List Event) → EndsOn events
      → ReadsFrom profile n events outcomes
      → All IsNotTruncated outcomes
  whole_from [] n events ends reads = All-nil IsNotTruncated
  whole_from (Accepted t ∷ more) n events ends w =
      All-cons IsNotTruncated (Accepted t) more (λ refusal same truncated. cc same)
      (whole_from more (n + length w.0) w.1 (rest_ends w.0 w.1 events ends w.2) w.4)
  whole_from (Refusal refusal ∷ more) n events ends (inl w) =
      let refused = w.1 ∷ w.2 in
      let over : refused ≡ w.5 ++ w.6 = passed_then_left refused w.5 w.6 w.7 in
      All-cons IsNotTruncated (Refusal refusal) more (not_at n w.0 w.1 refusal w.4)
      (whole_from more (n + length w.0 + length w.5) w.6
      (rest_ends w.5 w.6 refused (rest_ends w.0 refused events ends w.3) over) w.8)
  whole_from (Refusal refusal ∷ more) n events ends (inr w) = absurd (not_truncated n events refusal ends w.0)

  pub whole : (first : List Event) (outcomes : List Outcome) → EndsWithStop first → ReadsFrom profile 0 first outcomes
      → All IsNotTruncated outcomes
  whole first outcomes ends reads = whole_from outcomes 0 first (inr ends) reads

  -- ---- in pieces

  module _ (pec_is_byte : (bytes : List ℕ) → pec bytes < 256)
      (told_by_events : (a b : Kinds) → bits a < 32 → bits b < 32 → ((event : Event) → holds a event ≡ holds b event)
      → a ≡ b)
      (bus : IsBus profile) where
    pub in_pieces : (first second : List Event) (both : List Outcome) → EndsWithStop first
        → ReadsFrom profile 0 (first ++ second) both
        → (outcomes : List Outcome) × (others : List Outcome) × ReadsFrom profile 0 first outcomes
        × ReadsFrom profile 0 second others
        × (both ≡ outcomes ++ moved (length first) others)
    in_pieces first second both ends reads =
        let a = each_list_has_a_reading pec_is_byte profile bus 0 first in
        let b = each_list_has_a_reading pec_is_byte profile bus 0 second in
        let all = a.0 ++ moved (length first) b.0 in (
          a.0,
          b.0,
          a.1,
          b.1,
          one_reading_from profile told_by_events bus both all 0 (first ++ second) reads
              (joined first second a.0 b.0 ends a.1 b.1),
        )
