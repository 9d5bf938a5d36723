-- What spans say, one list after the other: counts and facts. For each
-- function that tells of a span more (`take_group`, `take_line`, `take_word`, `put_bad_word`,
-- `put_end`, and the visits). By induction over the spans.
use Rattle.std.proofs.Common.{◌≡◌, ℕ, Option, Some, None, List, [], ◌∷◌, ◌++◌, append-nil, append_assoc, sym}
use Rattle.std.proofs.Common.{ap, ◌∙◌}
use Rattle.std.proofs.lemmas.List.{map-append}
use Rattle.std.proofs.lemmas.List.Sums.{fold-append}
use Rattle.pmb_bus.specs.declared.event.Event.{Event}
use Rattle.pmb_json_objects.specs.Counts.{CountsData}
use Rattle.pmb_facts.specs.Fact.{FactData}
use Rattle.pmb_facts.specs.Packets.{packet_facts}
use Rattle.pmb_places.specs.declared.places.Place.{Place}
use Rattle.pmb_spans.specs.Spans.{Span, ReadSpan, RefusedSpan, TruncatedSpan, moved_spans}
use Rattle.pmb_unknown_start.specs.Past.{PastData, Said}
use Rattle.pmb_fact_stream.specs.Spans.{after_span, after_spans, other_or, refused_span, span_facts}
use Rattle.pmb_fact_stream.specs.Others.{other_address}
use Rattle.pmb_fact_stream.specs.Spans.{past_in}

-- ---- counts

pub counts_append : (ignored : Option (List ℕ)) (c : CountsData) (a b : List Span)
    → after_spans ignored c (a ++ b) ≡ after_spans ignored (after_spans ignored c a) b
counts_append ignored c a b = fold-append (after_span ignored) c a b

-- ---- facts

module _ (ignored : Option (List ℕ)) (place : ℕ → Place) (times : ℕ → Option (List ℕ))
    (lost : ℕ → List Event → List PastData) where
  pub facts_append : (before : List PastData) (a b : List Span)
      → span_facts ignored place times lost before (a ++ b) ≡ span_facts ignored place times lost before a
      ++ span_facts ignored place times lost (before ++ past_in lost a) b
  facts_append before [] b = ap (λ (past : List PastData). span_facts ignored place times lost past b)
      (sym (append-nil before))
  facts_append before (ReadSpan n events t ∷ a) b =
      let first = other_or place times n (other_address ignored events)
      (packet_facts before place (times n) n events t) in
      ap (λ (os : List FactData). first ++ os)
      (facts_append (before ++ Said t ∷ []) a b
      ∙ ap (λ (past : List PastData). span_facts ignored place times lost (before ++ Said t ∷ []) a
      ++ span_facts ignored place times lost past b) (append_assoc before (Said t ∷ []) (past_in lost a)))
      ∙ sym (append_assoc first _ _)
  facts_append before (RefusedSpan n front event refusal ∷ a) b =
      let first = other_or place times n (other_address ignored (front ++ event ∷ []))
      (refused_span place times before n front (Some event) refusal ∷ []) in
      ap (λ (os : List FactData). first ++ os)
      (facts_append (before ++ lost n front) a b
      ∙ ap (λ (past : List PastData). span_facts ignored place times lost (before ++ lost n front) a
      ++ span_facts ignored place times lost past b) (append_assoc before (lost n front) (past_in lost a)))
      ∙ sym (append_assoc first _ _)
  facts_append before (TruncatedSpan n front refusal ∷ a) b =
      let first = other_or place times n (other_address ignored front)
      (refused_span place times before n front None refusal ∷ []) in
      ap (λ (os : List FactData). first ++ os) (facts_append before a b) ∙ sym (append_assoc first _ _)

  -- of spans that are moved, and others after them, where so much went before these
  pub facts_moved : (before past : List PastData) (n : ℕ) (a b : List Span) → past_in lost (moved_spans n a) ≡ past
      → span_facts ignored place times lost before (moved_spans n (a ++ b))
      ≡ span_facts ignored place times lost before (moved_spans n a) ++ span_facts ignored place times lost
      (before ++ past) (moved_spans n b)
  facts_moved before past n a b is =
      ap (span_facts ignored place times lost before) (map-append _ a b) ∙ facts_append before (moved_spans n a)
      (moved_spans n b)
      ∙ ap (λ (l : List PastData). span_facts ignored place times lost before (moved_spans n a)
      ++ span_facts ignored place times lost (before ++ l) (moved_spans n b)) is
