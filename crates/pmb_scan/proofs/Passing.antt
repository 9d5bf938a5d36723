-- Events that are passed over up to and with the first STOP, as spans. For `report`, `pass_over`
-- and the other functions of `src/reported.rt` and `src/scan.rt`. An event more in front that is no
-- STOP is passed over too.
use Rattle.std.proofs.Common.{◌≡◌, ◌≢◌, ℕ, ◌+◌, List, [], ◌∷◌, length, refl, subst, arith}
use Rattle.pmb_bus.specs.declared.event.Event.{Event}
use Rattle.pmb_bus.specs.declared.event.Event.TheVariants.{Stop}
use Rattle.pmb_command.specs.Parts.{DeviceParts}
use Rattle.pmb_transaction.specs.Capture.{HasNoStop}
use Rattle.pmb_transaction.specs.Reading.{PassedOver, to_first_stop, to_the_end}
use Rattle.pmb_spans.specs.Spans.{Span, SpansAfterStop, SpansFrom}

-- An event that is no STOP is passed over, with what is passed over after it.
abbrev pub OthersPass : Type 0
OthersPass =
    (event : Event) (events passed left : List Event) → event ≢ Stop → PassedOver events passed left
    → PassedOver (event ∷ events) (event ∷ passed) left

-- no STOP is among no events
no_stop_none : HasNoStop []
no_stop_none [] after same = cc
no_stop_none (event ∷ before) after same = cc

module _ (profile : List DeviceParts) where
  -- no events have no spans
  pub after_none : (n : ℕ) → SpansAfterStop profile n [] []
  after_none n = ([], [], to_the_end refl no_stop_none refl, refl)

  -- a STOP more in front
  pub after_stop : (n : ℕ) (events : List Event) (spans : List Span) → SpansFrom profile (n + 1) events spans
      → SpansAfterStop profile n (Stop ∷ events) spans
  after_stop n events spans reads =
      (Stop ∷ [], events, to_first_stop refl (record { front = []; no_stop = no_stop_none; split = refl }), reads)

  -- an event more in front, which is no STOP
  pub after_one : OthersPass → (n : ℕ) (event : Event) (events : List Event) (spans : List Span) → event ≢ Stop
      → SpansAfterStop profile (n + 1) events spans → SpansAfterStop profile n (event ∷ events) spans
  after_one others_pass n event events spans other w =
      let count : n + 1 + length w.0 ≡ n + length (event ∷ w.0) = omega arith in (
        event ∷ w.0,
        w.1,
        others_pass event events w.0 w.1 other w.2,
        subst (λ (k : ℕ). SpansFrom profile k w.1 spans) count w.3,
      )
