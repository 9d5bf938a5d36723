-- The counts of lists of spans: one list after another, and spans that are moved by a
-- number of events. For the law `moved_spans_count_the_same`, all files here that join lists, and
-- the pieces of `pmb_json`. Moving a span changes where its events are counted, and neither its
-- transaction, nor what is lost at it, nor whether it is told.
use Rattle.std.proofs.Common.{◌≡◌, ◌||◌, ℕ, Bool, true, false, cond, Option, None, Some, List, [], ◌∷◌, ◌++◌, filter}
use Rattle.std.proofs.Common.{flat_map}
use Rattle.std.proofs.Common.{refl}
use Rattle.std.proofs.Common.{ap, ◌∙◌}
use Rattle.std.proofs.lemmas.Grind.{flat_map-append}
use Rattle.std.specs.List.{All}
use Rattle.std.proofs.lemmas.List.Elements.{All-head, All-tail, filter-append}
use Rattle.std.proofs.lemmas.List.Sums.{fold-append}
use Rattle.pmb_bus.specs.declared.event.Event.{Event}
use Rattle.pmb_command.specs.Parts.{DeviceParts}
use Rattle.pmb_json_objects.specs.Counts.{CountsData}
use Rattle.pmb_facts.specs.Fact.{FactData}
use Rattle.pmb_fact_stream.specs.Lines.{fact_line, fact_lines, is_wanted_fact}
use Rattle.pmb_spans.specs.Spans.{Span, ReadSpan, RefusedSpan, TruncatedSpan, is_whole, moved_span, moved_spans}
use Rattle.pmb_fact_stream.specs.Choice.{ChoiceData}
use Rattle.pmb_fact_stream.specs.Others.{is_other, is_told, other_address, span_events}
use Rattle.pmb_fact_stream.specs.Spans.{after_either, after_reported, after_span, after_spans}
use Rattle.pmb_fact_stream.specs.Spans.{past_in}
use Rattle.pmb_fact_stream.proofs.Losing.{past_both}
use Rattle.pmb_unknown_start.specs.Past.{PastData}

-- ---- lines

module _ (choice : ChoiceData) (profile : List DeviceParts) where
  pub lines_append : (a b : List FactData) → fact_lines choice profile (a ++ b) ≡ fact_lines choice profile a
      ++ fact_lines choice profile b
  lines_append a b =
      ap (flat_map (fact_line choice profile)) (filter-append (is_wanted_fact choice profile) a b)
      ∙ flat_map-append (fact_line choice profile) (filter (is_wanted_fact choice profile) a)
      (filter (is_wanted_fact choice profile) b)

-- ---- spans moved

-- where these addresses are ignored
module _ (ignored : Option (List ℕ)) where
  -- a span's events are the same where it is moved
  events_moved : (n : ℕ) (span : Span) → span_events (moved_span n span) ≡ span_events span
  events_moved n (ReadSpan m events t) = refl
  events_moved n (RefusedSpan m front event refusal) = refl
  events_moved n (TruncatedSpan m front refusal) = refl

  reported_moved : (c : CountsData) (n : ℕ) (span : Span)
      → after_reported c (moved_span n span) ≡ after_reported c span
  reported_moved c n (ReadSpan m events t) = refl
  reported_moved c n (RefusedSpan m front event refusal) = refl
  reported_moved c n (TruncatedSpan m front refusal) = refl

  either_moved : (c : CountsData) (n : ℕ) (addr : Option ℕ) (span : Span)
      → after_either c addr (moved_span n span) ≡ after_either c addr span
  either_moved c n None span = reported_moved c n span
  either_moved c n (Some addr) span = refl

  count_moved : (c : CountsData) (n : ℕ) (span : Span)
      → after_span ignored c (moved_span n span) ≡ after_span ignored c span
  count_moved c n span =
      either_moved c n (other_address ignored (span_events (moved_span n span))) span
      ∙ ap (λ (events : List Event). after_either c (other_address ignored events) span) (events_moved n span)

  pub counts_moved : (c : CountsData) (n : ℕ) (spans : List Span) → after_spans ignored c (moved_spans n spans)
      ≡ after_spans ignored c spans
  counts_moved c n [] = refl
  counts_moved c n (span ∷ spans) =
      ap (λ (d : CountsData). after_spans ignored d (moved_spans n spans)) (count_moved c n span)
      ∙ counts_moved (after_span ignored c span) n spans

  pub counts_append : (c : CountsData) (a b : List Span)
      → after_spans ignored c (a ++ b) ≡ after_spans ignored (after_spans ignored c a) b
  counts_append c a b = fold-append (after_span ignored) c a b

  told_moved_one : (n : ℕ) (span : Span) → is_told ignored (moved_span n span) ≡ is_told ignored span
  told_moved_one n (ReadSpan m events t) = refl
  told_moved_one n (RefusedSpan m front event refusal) = refl
  told_moved_one n (TruncatedSpan m front refusal) = refl

  moved_if : (n : ℕ) (span : Span) (spans : List Span) (told : Bool)
      → cond told (moved_span n span ∷ moved_spans n spans) (moved_spans n spans)
      ≡ moved_spans n (cond told (span ∷ spans) spans)
  moved_if n span spans true = refl
  moved_if n span spans false = refl

  -- and so is whether it is told
  pub told_moved : (n : ℕ) (spans : List Span) → filter (is_told ignored) (moved_spans n spans)
      ≡ moved_spans n (filter (is_told ignored) spans)
  told_moved n [] = refl
  told_moved n (span ∷ spans) =
      let rest = filter (is_told ignored) (moved_spans n spans) in
      ap (λ (told : Bool). cond told (moved_span n span ∷ rest) rest) (told_moved_one n span)
      ∙ (ap (λ (l : List Span). cond (is_told ignored span) (moved_span n span ∷ l) l) (told_moved n spans)
      ∙ moved_if n span (filter (is_told ignored) spans) (is_told ignored span))

  -- an end inside a packet is no transaction, whether it is told or not
  tells_none_if : (lost : ℕ → List Event → List PastData) (span : Span) (spans : List Span) (told : Bool)
      → past_in lost (span ∷ []) ≡ []
      → past_in lost spans ≡ [] → past_in lost (cond told (span ∷ spans) spans) ≡ []
  tells_none_if lost span spans true own none =
      past_both lost (span ∷ []) spans ∙ (ap (λ (past : List PastData). past ++ past_in lost spans) own
      ∙ none)
  tells_none_if lost span spans false own none = none

  pub ends_tell_none : (lost : ℕ → List Event → List PastData) (last : List Span) → filter is_whole last ≡ []
      → past_in lost (filter (is_told ignored) last) ≡ []
  ends_tell_none lost [] inside = refl
  ends_tell_none lost (ReadSpan m events t ∷ last) inside = absurd (cc inside)
  ends_tell_none lost (RefusedSpan m front event refusal ∷ last) inside = absurd (cc inside)
  ends_tell_none lost (TruncatedSpan m front refusal ∷ last) inside =
      tells_none_if lost (TruncatedSpan m front refusal) (filter (is_told ignored) last)
      (is_told ignored (TruncatedSpan m front refusal)) refl (ends_tell_none lost last inside)

-- spans that are whole are all told
pub all_told : (ignored : Option (List ℕ)) (spans : List Span) → All (λ span. is_whole span ≡ true) spans
    → filter (is_told ignored) spans ≡ spans
all_told ignored [] whole = refl
all_told ignored (span ∷ spans) whole =
    let rest = all_told ignored spans (All-tail (λ (s : Span). is_whole s ≡ true) span spans whole) in
    let others = filter (is_told ignored) spans in
    ap (λ (b : Bool). cond (b || is_other ignored span) (span ∷ others) others)
    (All-head (λ (s : Span). is_whole s ≡ true) span spans whole)
    ∙ ap (λ (l : List Span). span ∷ l) rest
