-- The first and the last time of facts, after one more.
use Rattle.std.proofs.Common.{◌≡◌, ℕ, Option, Some, None, List, [], ◌∷◌, ◌++◌, ap, refl, sym, ◌∙◌}
use Rattle.std.proofs.lemmas.List.{append-nil}
use Rattle.std.proofs.lemmas.List.Elements.{filter_map-append}
use Rattle.std.proofs.lemmas.List.Sums.{fold-append}
use Rattle.std.specs.List.{cons_option, fold}
use Rattle.pmb_facts.specs.Fact.{FactData}
use Rattle.pmb_observed.specs.Observing.{first_of, later_time, times}
use Rattle.pmb_stats.specs.declared.time_span.TimeSpan.{TimeSpan}
use Rattle.pmb_stats.specs.machine.TimeSpan.{SpanStandsAt, first_after}

-- the times of facts, after one more
times_more : (facts : List FactData) (fact : FactData)
    → times (facts ++ fact ∷ []) ≡ times facts ++ cons_option fact.head.time []
times_more facts fact = filter_map-append (λ (f : FactData). f.head.time) facts (fact ∷ [])

-- .. that has a time
times_one : (facts : List FactData) (fact : FactData) (time : List ℕ) → Some time ≡ fact.head.time
    → times (facts ++ fact ∷ []) ≡ times facts ++ time ∷ []
times_one facts fact time is =
    times_more facts fact ∙ ap (λ (t : Option (List ℕ)). times facts ++ cons_option t []) (sym is)

-- .. and that has none
times_none : (facts : List FactData) (fact : FactData) → None ≡ fact.head.time
    → times (facts ++ fact ∷ []) ≡ times facts
times_none facts fact is =
    times_more facts fact
    ∙ (ap (λ (t : Option (List ℕ)). times facts ++ cons_option t []) (sym is) ∙ append-nil (times facts))

first_more : (all : List (List ℕ)) (time : List ℕ) → first_of (all ++ time ∷ []) ≡ first_after (first_of all) time
first_more [] time = refl
first_more (first ∷ all) time = refl

pub span_more : (before after : TimeSpan) (facts : List FactData) (fact : FactData) (time : List ℕ)
    → SpanStandsAt before facts → Some time ≡ fact.head.time → after.first ≡ first_after before.first time
    → after.last ≡ Some time → SpanStandsAt after (facts ++ fact ∷ [])
span_more before after facts fact time stands is first last = record {
  first = first ∙ (ap (λ t. first_after t time) stands.first
      ∙ (sym (first_more (times facts) time) ∙ ap first_of (sym (times_one facts fact time is))));
  last = last ∙ sym (ap (λ all. fold later_time None all) (times_one facts fact time is)
      ∙ fold-append later_time None (times facts) (time ∷ []));
}

pub span_same : (span : TimeSpan) (facts : List FactData) (fact : FactData) → SpanStandsAt span facts
    → None ≡ fact.head.time → SpanStandsAt span (facts ++ fact ∷ [])
span_same span facts fact stands is = record {
  first = stands.first ∙ ap first_of (sym (times_none facts fact is));
  last = stands.last ∙ ap (λ all. fold later_time None all) (sym (times_none facts fact is));
}
