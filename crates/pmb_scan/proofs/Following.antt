-- What a scan has read comes to some spans, whatever follows, and also where nothing follows. For
-- the law `scans_lead_on`. Each list of events has spans; those that follow a place are put after
-- those so far.
use Rattle.std.proofs.Common.{◌≡◌, ℕ, ◌+◌, List, [], ◌∷◌, ◌++◌, filter, length, inl, inr, refl, sym, ap, ◌∙◌, subst}
use Rattle.std.proofs.Common.{append_assoc, append-nil}
use Rattle.pmb_bus.specs.declared.event.Event.{Event}
use Rattle.pmb_command.specs.Parts.{DeviceParts}
use Rattle.pmb_reader.specs.Reader.{Standing, Open, Held, Passing}
use Rattle.pmb_transaction.specs.Capture.{IsPacket, Viable}
use Rattle.pmb_transaction.specs.Reading.{IsUnderWay, PassedOver}
use Rattle.pmb_spans.specs.Spans.{Span, ReadSpan, RefusedSpan, TruncatedSpan, Spans, SpansFrom, is_whole}
use Rattle.pmb_scan.specs.Reached.{Reached, EndsWith, IsReading, LeadsOn, SpansBehind}
use Rattle.pmb_scan.proofs.Passing.{after_none}
use Rattle.pmb_scan.proofs.Reporting.{ends_so}

-- events have some spans, however many came before
abbrev pub HaveSpans : List DeviceParts → Type 0
HaveSpans profile = (n : ℕ) (events : List Event) → (spans : List Span) × SpansFrom profile n events spans

-- and of each list some are passed over
abbrev pub SomePass : Type 0
SomePass = (events : List Event) → (passed : List Event) × (left : List Event) × PassedOver events passed left

-- ---- whatever follows

module _ (some_pass : SomePass) (profile : List DeviceParts) (some : HaveSpans profile) where
  passed_over : (n : ℕ) (rest : List Event) → (others : List Span) × SpansBehind profile (Passing n) rest others
  passed_over n rest =
      let over = some_pass rest in
      let found = some (n + length over.0) over.1 in (found.0, (over.0, over.1, over.2, found.1))

  some_others : (standing : Standing) (rest : List Event) → IsReading standing
      → (others : List Span) × SpansBehind profile standing rest others
  some_others (Open n events) rest reading = some n (events ++ rest)
  some_others (Held n refusal) rest reading = absurd reading
  some_others (Passing n) rest reading = passed_over n rest

pub follows : SomePass → (reached : Reached) (rest : List Event) → HaveSpans reached.profile → LeadsOn reached
    → (others : List Span) × Spans reached.profile (reached.events ++ rest) (reached.spans ++ others)
follows some_pass reached rest some on =
    let found = some_others some_pass reached.profile some reached.standing rest on.reading in
    (found.0, on.leads rest found.0 found.1)

-- ---- nothing follows

-- some packet begins with a front of what some packet begins with
front_viable : (profile : List DeviceParts) (events front rest : List Event) (event : Event) → Viable profile events
    → events ≡ front ++ event ∷ rest
    → Viable profile (front ++ event ∷ [])
front_viable profile events front rest event (inl none) split = absurd (no_events front (sym split ∙ none))
  where
    no_events : (front : List Event) → front ++ event ∷ rest ≡ [] → ⊥
    no_events [] same = cc
    no_events (first ∷ front) same = cc
front_viable profile events front rest event (inr begun) split =
    inr (
      rest ++ begun.0,
      subst (λ (es : List Event). IsPacket profile es) (ap (λ (es : List Event). es ++ begun.0) split
          ∙ append_assoc front (event ∷ rest) begun.0 ∙ sym (append_assoc front (event ∷ []) (rest ++ begun.0)))
          begun.1,
    )

-- the spans of a packet under way: none, or an end inside it
inside : (profile : List DeviceParts) (n : ℕ) (events : List Event) (spans : List Span) → IsUnderWay profile events
    → SpansFrom profile n events spans
    → filter is_whole spans ≡ []
inside profile n events [] under_way reads = refl
inside profile n events (ReadSpan m front t ∷ more) under_way reads =
    absurd (under_way.no_packet front reads.1 reads.2 (t, reads.3))
inside profile n events (RefusedSpan m front event refusal ∷ more) under_way reads =
    absurd (reads.3.refused (front_viable profile events front reads.1 event under_way.viable reads.2))
inside profile n events (TruncatedSpan m front refusal ∷ more) under_way reads = ap (filter is_whole) reads.3

ends_at : (reached : Reached) (standing : Standing) → reached.standing ≡ standing → HaveSpans reached.profile
    → LeadsOn reached
    → ((n : ℕ) (events : List Event) → standing ≡ Open n events → IsUnderWay reached.profile events)
    → (last : List Span) × EndsWith reached last
ends_at reached (Open n events) same some on begun =
    let found = some n events in (
      found.0,
      ends_so reached found.0 on (subst (λ (s : Standing). SpansBehind reached.profile s [] found.0) (sym same)
          (subst (λ (es : List Event). SpansFrom reached.profile n es found.0) (sym (append-nil events)) found.1))
          (inside reached.profile n events found.0 (begun n events refl) found.1),
    )
ends_at reached (Held n refusal) same some on begun = absurd (subst IsReading same on.reading)
ends_at reached (Passing n) same some on begun = (
  [],
  ends_so reached [] on (subst (λ (s : Standing). SpansBehind reached.profile s [] []) (sym same)
      (after_none reached.profile n)) refl,
)

pub ends : (reached : Reached) → HaveSpans reached.profile → LeadsOn reached
    → ((n : ℕ) (events : List Event) → reached.standing ≡ Open n events → IsUnderWay reached.profile events)
    → (last : List Span) × EndsWith reached last
ends reached some on begun = ends_at reached reached.standing refl some on begun
