-- Events have one list of spans. For the laws `one_list_of_spans` and `spans_may_be_cut`. Spans
-- have the outcomes of a reading (Outcomes), of which there is one; and two lists with the same
-- outcomes have the same events in each, since a packet ends at its STOP and a refusal comes at one
-- place.
use Rattle.std.proofs.Common.{◌≡◌, ℕ, ◌+◌, ◌<◌, ◌⊎◌, inl, inr, List, [], ◌∷◌, ◌++◌, length, map, refl, sym, ap, ◌∙◌}
use Rattle.std.proofs.Common.{subst, append_assoc}
use Rattle.std.proofs.lemmas.List.{append-nil, append_cancel_left}
use Rattle.pmb_bus.specs.Kinds.{bits, holds}
use Rattle.pmb_bus.specs.declared.event.Event.{Event}
use Rattle.pmb_bus.specs.declared.kinds.Kinds.{Kinds}
use Rattle.pmb_command.specs.Bus.{IsBus}
use Rattle.pmb_command.specs.Parts.{DeviceParts}
use Rattle.pmb_transaction.specs.Capture.{Viable}
use Rattle.pmb_transaction.specs.Reading.{PassedOver, RefusalData, RefusedAt, TruncatedAt}
use Rattle.pmb_transaction.proofs.Captures.{same_first_packet}
use Rattle.pmb_transaction.proofs.Fronts.{Beyond, Within, cut}
use Rattle.pmb_transaction.proofs.Readings.{one_reading_from}
use Rattle.pmb_spans.specs.Spans.{ReadSpan, RefusedSpan, Span, SpansFrom, TruncatedSpan, outcome}
use Rattle.pmb_spans.proofs.Outcomes.{spans_read}

-- What begins viable events is viable, and events are passed over in one way.
module _ (profile : List DeviceParts) (fronts : (a b : List Event) → Viable profile (a ++ b) → Viable profile a)
    (one_way : (events passed left others rest : List Event) → PassedOver events passed left
    → PassedOver events others rest → (passed ≡ others) × (left ≡ rest)) where
  -- ---- one place

  -- no refused event stands in viable events
  not_refused_in : (n : ℕ) (front : List Event) (event : Event) (refusal : RefusalData) (rest all : List Event)
      → RefusedAt profile n front event refusal → all ≡ front ++ event ∷ rest → Viable profile all → ⊥
  not_refused_in n front event refusal rest all refused split viable =
      refused.refused
      (fronts (front ++ event ∷ []) rest (subst (Viable profile) (split ∙ sym (append_assoc front (event ∷ []) rest))
      viable))

  place_within : (n : ℕ) (a b : List Event) (d e : Event) (x y : List Event) (r : RefusalData)
      → RefusedAt profile n a d r → Viable profile b
      → (rest : List Event) → b ≡ a ++ rest → d ∷ x ≡ rest ++ e ∷ y → a ≡ b
  place_within n a b d e x y r refused viable [] split same = sym (append-nil a) ∙ sym split
  place_within n a b d e x y r refused viable (f ∷ rest) split same =
      let first : f ≡ d = cc same in
      absurd (not_refused_in n a d r rest b refused (split ∙ ap (λ (event : Event). a ++ event ∷ rest) first) viable)

  same_place_at : (n : ℕ) (a b : List Event) (d e : Event) (x y : List Event) (r s : RefusalData)
      → RefusedAt profile n a d r
      → RefusedAt profile n b e s → Within a (d ∷ x) b (e ∷ y) ⊎ Beyond a (d ∷ x) b (e ∷ y) → a ≡ b
  same_place_at n a b d e x y r s first second (inl w) =
      place_within n a b d e x y r first second.under_way.viable w.rest w.first w.second
  same_place_at n a b d e x y r s first second (inr w) =
      sym (place_within n b a e d y x s second first.under_way.viable (w.event ∷ w.rest) w.first w.second)

  -- events are refused at one place
  same_place : (n : ℕ) (a b : List Event) (d e : Event) (x y : List Event) (r s : RefusalData)
      → RefusedAt profile n a d r
      → RefusedAt profile n b e s → a ++ d ∷ x ≡ b ++ e ∷ y → a ≡ b
  same_place n a b d e x y r s first second same = same_place_at n a b d e x y r s first second
      (cut a (d ∷ x) b (e ∷ y) same)

  -- and not where they end inside a packet
  not_truncated : (n : ℕ) (front : List Event) (event : Event) (rest events all : List Event) (r s : RefusalData)
      → RefusedAt profile n front event r → events ≡ front ++ event ∷ rest → TruncatedAt profile n all s → events ≡ all
      → ⊥
  not_truncated n front event rest events all r s refused split truncated same =
      not_refused_in n front event r rest all refused (sym same ∙ split) truncated.under_way.viable

  -- ---- one list of spans

  -- spans of the same outcomes are the same
  one_split : (a b : List Span) (n : ℕ) (events : List Event) → map outcome a ≡ map outcome b
      → SpansFrom profile n events a
      → SpansFrom profile n events b → a ≡ b
  one_split [] [] n events same first second = refl
  one_split [] (span ∷ others) n events same first second = absurd (cc same)
  one_split (span ∷ more) [] n events same first second = absurd (cc same)
  -- two packets at the front of the same events are the same, and so is what follows
  one_split (ReadSpan i f t ∷ more) (ReadSpan j g u ∷ others) n events same first second =
      let fronts = same_first_packet profile t u f g first.1 second.1 first.3 second.3 (sym first.2 ∙ second.2) in
      let front : f ≡ g = fronts.0 in
      let counted : SpansFrom profile (n + length g) first.1 more =
      subst (λ (es : List Event). SpansFrom profile (n + length es) first.1 more) front first.4 in
      let behind : SpansFrom profile (n + length g) second.1 more =
      subst (λ (es : List Event). SpansFrom profile (n + length g) es more) fronts.1 counted in
      let outcomes : map outcome more ≡ map outcome others = cc same in
      let later : more ≡ others = one_split more others (n + length g) second.1 outcomes behind second.4 in
      let place : i ≡ j = first.0 ∙ sym second.0 in
      let transaction : t ≡ u = cc same in
      cc (place, front, transaction, later)
  -- a packet and a refusal are two outcomes
  one_split (ReadSpan i f t ∷ more) (RefusedSpan j g e s ∷ others) n events same first second = absurd (cc same)
  one_split (ReadSpan i f t ∷ more) (TruncatedSpan j g s ∷ others) n events same first second = absurd (cc same)
  one_split (RefusedSpan i f d r ∷ more) (ReadSpan j g u ∷ others) n events same first second = absurd (cc same)
  -- two refusals: at one place, of one event, and then the same events are passed over
  one_split (RefusedSpan i f d r ∷ more) (RefusedSpan j g e s ∷ others) n events same first second =
      let onwards : f ++ d ∷ first.1 ≡ g ++ e ∷ second.1 = sym first.2 ∙ second.2 in
      let front : f ≡ g = same_place n f g d e first.1 second.1 r s first.3 second.3 onwards in
      let tails : d ∷ first.1 ≡ e ∷ second.1 =
      append_cancel_left g (d ∷ first.1) (e ∷ second.1) (ap (λ (es : List Event). es ++ d ∷ first.1) (sym front)
      ∙ onwards) in
      let over =
      one_way (e ∷ second.1) first.4 first.5 second.4 second.5
      (subst (λ (es : List Event). PassedOver es first.4 first.5) tails first.6)
      second.6 in
      -- so the same events are left, with the same outcomes
      let counted : SpansFrom profile (n + length g + length second.4) first.5 more =
      subst (λ (passed : List Event). SpansFrom profile (n + length g + length passed) first.5 more) over.0
      (subst (λ (es : List Event). SpansFrom profile (n + length es + length first.4) first.5 more) front first.7) in
      let outcomes : map outcome more ≡ map outcome others = cc same in
      let later : more ≡ others =
      one_split more others (n + length g + length second.4) second.5 outcomes
      (subst (λ (left : List Event). SpansFrom profile (n + length g + length second.4) left more) over.1 counted)
      second.7 in
      let place : i ≡ j = first.0 ∙ sym second.0 in
      let event : d ≡ e = cc tails in
      let refusal : r ≡ s = cc same in
      cc (place, front, event, refusal, later)
  -- events that end inside a packet hold no refused one
  one_split (RefusedSpan i f d r ∷ more) (TruncatedSpan j g s ∷ others) n events same first second =
      absurd (not_truncated n f d first.1 events g r s first.3 first.2 second.2 second.1)
  one_split (TruncatedSpan i f r ∷ more) (ReadSpan j g u ∷ others) n events same first second = absurd (cc same)
  one_split (TruncatedSpan i f r ∷ more) (RefusedSpan j g e s ∷ others) n events same first second =
      absurd (not_truncated n g e second.1 events f s r second.3 second.2 first.2 first.1)
  -- two ends inside a packet, which are all of the events
  one_split (TruncatedSpan i f r ∷ more) (TruncatedSpan j g s ∷ others) n events same first second =
      let place : i ≡ j = first.0 ∙ sym second.0 in
      let front : f ≡ g = sym first.1 ∙ second.1 in
      let refusal : r ≡ s = cc same in
      let later : more ≡ others = first.3 ∙ sym second.3 in
      cc (place, front, refusal, later)

  pub one_list_of_spans : ((a b : Kinds) → bits a < 32 → bits b < 32 → ((event : Event) → holds a event ≡ holds b event)
      → a ≡ b)
      → IsBus profile → (n : ℕ) (events : List Event) (a b : List Span) → SpansFrom profile n events a
      → SpansFrom profile n events b → a ≡ b
  one_list_of_spans told_by_events bus n events a b first second =
      one_split a b n events
      (
      one_reading_from profile told_by_events bus (map outcome a) (map outcome b) n events
      (spans_read profile a n events first)
      (spans_read profile b n events second)
      ) first second
