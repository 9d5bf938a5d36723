-- The outcomes of spans are a reading of their events, and each reading has spans. For the laws
-- `spans_read`, `readings_have_spans`, `each_list_has_spans` and `spans_may_be_cut`, and for
-- `pmb_capture`. A span is an outcome with its place and its events, so both go one by one.
use Rattle.std.proofs.Common.{◌≡◌, ℕ, ◌+◌, inl, inr, List, [], ◌∷◌, length, map, refl, sym, ap, subst}
use Rattle.pmb_bus.specs.declared.event.Event.{Event}
use Rattle.pmb_command.specs.Bus.{IsBus}
use Rattle.pmb_command.specs.Parts.{DeviceParts}
use Rattle.pmb_transaction.specs.Reading.{Accepted, Outcome, ReadsFrom, Refusal, TruncatedAt}
use Rattle.pmb_spans.specs.Spans.{ReadSpan, RefusedSpan, Span, SpansFrom, TruncatedSpan, outcome}

module _ (profile : List DeviceParts) where
  -- events read as the outcomes of their spans
  pub spans_read : (spans : List Span) (n : ℕ) (events : List Event) → SpansFrom profile n events spans
      → ReadsFrom profile n events (map outcome spans)
  spans_read [] n events w = w
  spans_read (ReadSpan m front t ∷ more) n events w =
      (front, w.1, w.2, w.3, spans_read more (n + length front) w.1 w.4)
  spans_read (RefusedSpan m front event refusal ∷ more) n events w =
      inl (front, event, w.1, w.2, w.3, w.4, w.5, w.6, spans_read more (n + length front + length w.4) w.5 w.7)
  spans_read (TruncatedSpan m front refusal ∷ more) n events w =
      inr (subst (λ (es : List Event). TruncatedAt profile n es refusal) (sym w.1) w.2, ap (map outcome) w.3)

  -- spans of these outcomes
  abbrev HaveSpans : (n : ℕ) (events : List Event) (outcomes : List Outcome) → Type 0
  HaveSpans n events outcomes = (spans : List Span) × SpansFrom profile n events spans × (map outcome spans ≡ outcomes)

  -- what events read as are the outcomes of some spans
  pub readings_have_spans : (outcomes : List Outcome) (n : ℕ) (events : List Event)
      → ReadsFrom profile n events outcomes
      → HaveSpans n events outcomes
  readings_have_spans [] n events none = ([], none, refl)
  readings_have_spans (Accepted t ∷ more) n events w =
      let have = readings_have_spans more (n + length w.0) w.1 w.4 in
      (ReadSpan n w.0 t ∷ have.0, (refl, w.1, w.2, w.3, have.1), ap (λ (os : List Outcome). Accepted t ∷ os) have.2)
  readings_have_spans (Refusal refusal ∷ more) n events (inl w) =
      let have = readings_have_spans more (n + length w.0 + length w.5) w.6 w.8 in (
        RefusedSpan n w.0 w.1 refusal ∷ have.0,
        (refl, w.2, w.3, w.4, w.5, w.6, w.7, have.1),
        ap (λ (os : List Outcome). Refusal refusal ∷ os) have.2,
      )
  readings_have_spans (Refusal refusal ∷ more) n events (inr w) = (
    TruncatedSpan n events refusal ∷ [],
    (refl, refl, w.0, refl),
    ap (λ (os : List Outcome). Refusal refusal ∷ os)
        (sym w.1),
  )

  -- each list of events has some
  pub some_spans : ((profile : List DeviceParts) (n : ℕ) (events : List Event) → IsBus profile
      → (outcomes : List Outcome) × ReadsFrom profile n events outcomes)
      → IsBus profile → (n : ℕ) (events : List Event) → (spans : List Span) × SpansFrom profile n events spans
  some_spans each bus n events =
      let reads = each profile n events bus in
      let have = readings_have_spans reads.0 n events reads.1 in (have.0, have.1)
