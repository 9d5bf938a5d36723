-- What a span of time says of the facts that were given.
use Rattle.std.specs.Prelude.{◌≡◌, ℕ, Option, Some, None, List}
use Rattle.pmb_facts.specs.Fact.{FactData}
use Rattle.pmb_observed.specs.Observing.{first_time, last_time}
use Rattle.pmb_stats.specs.declared.time_span.TimeSpan.{TimeSpan}

pub record SpanStandsAt (span : TimeSpan) (facts : List FactData) : Type 0 where
  pub first : span.first ≡ first_time facts
  pub last : span.last ≡ last_time facts

-- the first time after one more: of two the first
abbrev pub first_after : Option (List ℕ) → List ℕ → Option (List ℕ)
first_after None time = Some time
first_after (Some first) time = Some first
