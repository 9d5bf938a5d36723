-- Others among the spans of a capture that is cut: for the law `others_are_told`. An end inside an
-- other is told, and all spans but an end inside a packet are.
use Rattle.std.proofs.Common.{◌≡◌, ℕ, ◌+◌, ◌≤◌, Option, Some, None, List, [], ◌∷◌, ◌++◌, filter, length, refl, sym, ap}
use Rattle.std.proofs.Common.{◌∙◌, arith}
use Rattle.pmb_bus.specs.declared.event.Event.{Event}
use Rattle.pmb_json_objects.specs.Counts.{CountsData}
use Rattle.pmb_facts.specs.Fact.{FactData}
use Rattle.pmb_places.specs.declared.places.Place.{Place}
use Rattle.pmb_reader.specs.declared.refusal.Refusal.{Refusal}
use Rattle.pmb_reader.specs.Reader.{Standing, Open, Held, Passing}
use Rattle.pmb_reader.specs.Refusal.{refusal_data}
use Rattle.pmb_scan.specs.Scan.{end_spans}
use Rattle.pmb_spans.specs.Spans.{Span, ReadSpan, RefusedSpan, TruncatedSpan, is_whole, moved_refusal, moved_spans}
use Rattle.pmb_transaction.specs.Reading.{RefusalData}
use Rattle.pmb_unknown_start.specs.Past.{PastData}
use Rattle.pmb_fact_stream.specs.Others.{is_told, is_untold, other_address}
use Rattle.pmb_fact_stream.specs.Spans.{after_either, after_open, after_some, after_spans, open_facts, other_or}
use Rattle.pmb_fact_stream.specs.Spans.{refused_span, span_facts}

-- ---- one end

pub other_told : (ignored : Option (List ℕ)) (n : ℕ) (front : List Event) (refusal : RefusalData) (addr : ℕ)
    → other_address ignored front ≡ Some addr
    → filter (is_untold ignored) (TruncatedSpan n front refusal ∷ []) ≡ []
other_told ignored n front refusal addr is = rw is refl

pub packet_untold : (ignored : Option (List ℕ)) (n : ℕ) (front : List Event) (refusal : RefusalData)
    → other_address ignored front ≡ None
    → filter (is_untold ignored) (TruncatedSpan n front refusal ∷ []) ≡ TruncatedSpan n front refusal ∷ []
packet_untold ignored n front refusal is = rw is refl

other_is_told : (ignored : Option (List ℕ)) (n : ℕ) (front : List Event) (refusal : RefusalData) (addr : ℕ)
    → other_address ignored front ≡ Some addr
    → filter (is_told ignored) (TruncatedSpan n front refusal ∷ []) ≡ TruncatedSpan n front refusal ∷ []
other_is_told ignored n front refusal addr is = rw is refl

packet_is_not_told : (ignored : Option (List ℕ)) (n : ℕ) (front : List Event) (refusal : RefusalData)
    → other_address ignored front ≡ None → filter (is_told ignored) (TruncatedSpan n front refusal ∷ []) ≡ []
packet_is_not_told ignored n front refusal is = rw is refl

-- ---- the facts

-- no end is outside of a packet
abbrev pub NoneOutside : Standing → Option Refusal → Type 0
NoneOutside standing end = (n : ℕ) (front : List Event) → standing ≡ Open n front → end ≡ None → front ≡ []

module _ (ignored : Option (List ℕ)) (place : ℕ → Place) (times : ℕ → Option (List ℕ))
    (lost : ℕ → List Event → List PastData) (before : List PastData) (m : ℕ) where
  abbrev facts_of : List Span → List FactData
  facts_of spans = span_facts ignored place times lost before (moved_spans m spans)

  -- of one end, by whether it is inside an other
  one_told : (n : ℕ) (front : List Event) (refusal : RefusalData) (address : Option ℕ)
      → other_address ignored front ≡ address
      → facts_of (filter (is_told ignored) (TruncatedSpan n front refusal ∷ []))
      ≡ other_or place times (m + n) (other_address ignored front) []
  one_told n front refusal None is =
      ap facts_of (packet_is_not_told ignored n front refusal is)
      ∙ sym (ap (λ (o : Option ℕ). other_or place times (m + n) o []) is)
  one_told n front refusal (Some addr) is =
      let own = refused_span place times before (m + n) front None (moved_refusal m refusal) ∷ [] in
      ap facts_of (other_is_told ignored n front refusal addr is)
      ∙ ap (λ (o : Option ℕ). other_or place times (m + n) o own ++ []) is
      ∙ sym (ap (λ (o : Option ℕ). other_or place times (m + n) o []) is)

  one_rest : (n : ℕ) (front : List Event) (refusal : RefusalData) (address : Option ℕ)
      → other_address ignored front ≡ address
      → other_or place times (m + n) (other_address ignored front) []
      ++ facts_of (filter (is_untold ignored) (TruncatedSpan n front refusal ∷ []))
      ≡ facts_of (TruncatedSpan n front refusal ∷ [])
  one_rest n front refusal None is =
      let at = λ (o : Option ℕ). other_or place times (m + n) o [] in
      ap (λ (l : List Span). at (other_address ignored front) ++ facts_of l)
      (packet_untold ignored n front refusal is)
      ∙ ap (λ (o : Option ℕ). at o ++ facts_of (TruncatedSpan n front refusal ∷ [])) is
  one_rest n front refusal (Some addr) is =
      let at = λ (o : Option ℕ). other_or place times (m + n) o [] in
      let own = refused_span place times before (m + n) front None (moved_refusal m refusal) ∷ [] in
      ap (λ (l : List Span). at (other_address ignored front) ++ facts_of l)
      (other_told ignored n front refusal addr is)
      ∙ ap (λ (o : Option ℕ). at o ++ []) is
      ∙ sym (ap (λ (o : Option ℕ). other_or place times (m + n) o own ++ []) is)

  pub told_at_end : (standing : Standing) (end : Option Refusal) → NoneOutside standing end
      → facts_of (filter (is_told ignored) (end_spans standing end))
      ≡ open_facts ignored place times m standing
  told_at_end (Open n front) None none =
      sym (ap (λ (l : List Event). other_or place times (m + n) (other_address ignored l) [])
      (none n front refl refl))
  told_at_end (Open n front) (Some refusal) none = one_told n front (refusal_data refusal) _ refl
  told_at_end (Held n held) None none = refl
  told_at_end (Held n held) (Some refusal) none = refl
  told_at_end (Passing n) None none = refl
  told_at_end (Passing n) (Some refusal) none = refl

  pub rest_at_end : (standing : Standing) (end : Option Refusal) → NoneOutside standing end
      → open_facts ignored place times m standing
      ++ facts_of (filter (is_untold ignored) (end_spans standing end))
      ≡ facts_of (end_spans standing end)
  rest_at_end (Open n front) None none =
      ap (λ (l : List Event). other_or place times (m + n) (other_address ignored l) [] ++ [])
      (none n front refl refl)
  rest_at_end (Open n front) (Some refusal) none = one_rest n front (refusal_data refusal) _ refl
  rest_at_end (Held n held) None none = refl
  rest_at_end (Held n held) (Some refusal) none = refl
  rest_at_end (Passing n) None none = refl
  rest_at_end (Passing n) (Some refusal) none = refl

module _ (ignored : Option (List ℕ)) where
  one_counted : (c : CountsData) (n : ℕ) (front : List Event) (refusal : RefusalData) (address : Option ℕ)
      → other_address ignored front ≡ address
      → after_spans ignored c (filter (is_told ignored) (TruncatedSpan n front refusal ∷ []))
      ≡ after_some c (other_address ignored front)
  one_counted c n front refusal None is =
      ap (after_spans ignored c) (packet_is_not_told ignored n front refusal is) ∙ sym (ap (after_some c) is)
  one_counted c n front refusal (Some addr) is =
      ap (after_spans ignored c) (other_is_told ignored n front refusal addr is)
      ∙ ap (λ (o : Option ℕ). after_either c o (TruncatedSpan n front refusal)) is ∙ sym (ap (after_some c) is)

  pub counted_at_end : (c : CountsData) (standing : Standing) (end : Option Refusal) → NoneOutside standing end
      → after_spans ignored c (filter (is_told ignored) (end_spans standing end)) ≡ after_open ignored c standing
  counted_at_end c (Open n front) None none =
      sym (ap (λ (l : List Event). after_some c (other_address ignored l)) (none n front refl refl))
  counted_at_end c (Open n front) (Some refusal) none = one_counted c n front (refusal_data refusal) _ refl
  counted_at_end c (Held n held) None none = refl
  counted_at_end c (Held n held) (Some refusal) none = refl
  counted_at_end c (Passing n) None none = refl
  counted_at_end c (Passing n) (Some refusal) none = refl

  -- all but an end inside a packet are told
  pub whole_told : (spans : List Span) → filter is_whole spans ≡ spans → filter (is_told ignored) spans ≡ spans
  whole_told [] whole = refl
  whole_told (ReadSpan n events t ∷ spans) whole = ap (λ (l : List Span). ReadSpan n events t ∷ l)
      (whole_told spans (cc whole))
  whole_told (RefusedSpan n front event refusal ∷ spans) whole =
      ap (λ (l : List Span). RefusedSpan n front event refusal ∷ l) (whole_told spans (cc whole))
  whole_told (TruncatedSpan n front refusal ∷ spans) whole = absurd (no_end spans whole)
    where
      -- a filter makes no list longer
      shorter : (l : List Span) → length (filter is_whole l) ≤ length l
      shorter [] = omega arith
      shorter (ReadSpan n events t ∷ l) = omega (arith, shorter l)
      shorter (RefusedSpan n front event refusal ∷ l) = omega (arith, shorter l)
      shorter (TruncatedSpan n front refusal ∷ l) = omega (arith, shorter l)

      no_end : (l : List Span) → filter is_whole l ≡ TruncatedSpan n front refusal ∷ l → ⊥
      no_end l same = omega (arith, shorter l, ap (λ (k : List Span). length k) same)
