-- Where events end: inside a packet, or between two. For `put_bad_word` and `put_end`. The last
-- span is an end inside a packet exactly where the reader stands in one; then its object goes out
-- before the counts, and it counts as a refusal.
use Rattle.std.proofs.Common.{◌≡◌, ◌≢◌, ℕ, ◌+◌, Option, Some, None, List, [], ◌∷◌, ◌++◌, filter, length}
use Rattle.std.proofs.Common.{append-nil, refl, sym}
use Rattle.std.proofs.Common.{ap, ◌∙◌, subst, arith}
use Rattle.pmb_bus.specs.declared.event.Event.{Event}
use Rattle.pmb_bus.specs.Text.{EndsBetween, Spells}
use Rattle.pmb_command.specs.Parts.{DeviceParts}
use Rattle.pmb_io.specs.Count.{capped}
use Rattle.pmb_json_objects.specs.Counts.{CountsData, after_refusal}
use Rattle.pmb_facts.specs.Fact.{FactData}
use Rattle.pmb_fact_stream.specs.Lines.{fact_lines, last_lines}
use Rattle.pmb_fact_stream.specs.Spans.{refusal_fact}
use Rattle.pmb_places.specs.declared.places.Place.{Place}
use Rattle.pmb_places.specs.Text.{end_of_last_word}
use Rattle.pmb_reader.specs.declared.refusal.Refusal.{Refusal}
use Rattle.pmb_reader.specs.Reader.{Standing, Open, Held, Passing}
use Rattle.pmb_reader.specs.Refusal.{refusal_data}
use Rattle.pmb_partial_packet.specs.PartialPacket.{said_device}
use Rattle.pmb_scan.specs.Reached.{Reached}
use Rattle.pmb_scan.specs.Scan.{Truncates, end_spans}
use Rattle.pmb_spans.specs.Spans.{Span, ReadSpan, RefusedSpan, TruncatedSpan, SpansFrom, moved_spans}
use Rattle.pmb_transaction.specs.Capture.{Viable}
use Rattle.pmb_transaction.specs.Reading.{RefusalData, TruncatedAt}
use Rattle.pmb_fact_stream.specs.Before.{Before, past_of}
use Rattle.pmb_fact_stream.specs.Choice.{ChoiceData}
use Rattle.pmb_fact_stream.specs.Spans.{IsNoneOutside, after_either, after_open, after_some, after_spans}
use Rattle.pmb_fact_stream.specs.Lost.{lost_in}
use Rattle.pmb_fact_stream.specs.Spans.{event_place, event_time, span_facts}
use Rattle.pmb_fact_stream.specs.Others.{is_untold, other_address}
use Rattle.pmb_fact_stream.proofs.Places.{EachWordHasPlace, stands_behind_all}
use Rattle.pmb_fact_stream.proofs.Others.{other_told, packet_untold}
use Rattle.pmb_fact_stream.proofs.Spans.{counts_append}
use Rattle.pmb_fact_stream.proofs.Adding.{head_as, own_facts}

-- a list that ends with something is not empty
not_none : (spans : List Span) (last : Span) → spans ++ last ∷ [] ≢ []
not_none [] last none = cc none
not_none (span ∷ spans) last none = cc none

module _ (profile : List DeviceParts) where
  -- the last span, where it is an end inside a packet, is so at some place
  abbrev IsEnd : List Event → RefusalData → Type 0
  IsEnd front refusal = (k : ℕ) × TruncatedAt profile k front refusal

  last_is_end : (spans : List Span) (n : ℕ) (events : List Event) (m : ℕ) (front : List Event) (refusal : RefusalData)
      → SpansFrom profile n events (spans ++ TruncatedSpan m front refusal ∷ [])
      → IsEnd front refusal
  last_is_end [] n events m front refusal w = (n, w.2)
  last_is_end (ReadSpan i own t ∷ spans) n events m front refusal w =
      last_is_end spans (n + length own) w.1 m front refusal w.4
  last_is_end (RefusedSpan i own event other ∷ spans) n events m front refusal w =
      last_is_end spans (n + length own + length w.4) w.5 m front refusal w.7
  last_is_end (TruncatedSpan i own other ∷ spans) n events m front refusal w =
      absurd (not_none spans (TruncatedSpan m front refusal) w.3)

-- Events that end inside a packet: those of the packet are viable.
pub record EndsInside (reached : Reached) (n : ℕ) (front : List Event) : Type 0 where
  -- the reader stands inside a packet that began at event n
  pub standing : reached.standing ≡ Open n front
  pub viable : Viable reached.profile front
  pub some : front ≢ []

-- .. which is where an end is refused
ends_at : (reached : Reached) (standing : Standing) (refusal : Refusal) → reached.standing ≡ standing
    → Truncates reached (Some refusal) → (n : ℕ) × (front : List Event) × EndsInside reached n front
ends_at reached (Open n front) refusal is end =
    let spans = subst (λ (s : Standing). SpansFrom reached.profile 0 reached.events
    (reached.spans ++ end_spans s (Some refusal))) is end.spans in
    let last = last_is_end reached.profile reached.spans 0 reached.events n front (refusal_data refusal) spans in
    (n, front, record { standing = is; viable = last.1.under_way.viable; some = last.1.some })
ends_at reached (Held n held) refusal is end =
    let spans = subst (λ (s : Standing). SpansFrom reached.profile 0 reached.events
    (reached.spans ++ end_spans s (Some refusal))) is end.spans in
    let last = last_is_end reached.profile reached.spans 0 reached.events n [] (refusal_data refusal) spans in
    absurd (last.1.some refl)
ends_at reached (Passing n) refusal is end =
    let spans = subst (λ (s : Standing). SpansFrom reached.profile 0 reached.events
    (reached.spans ++ end_spans s (Some refusal))) is end.spans in
    let last = last_is_end reached.profile reached.spans 0 reached.events n [] (refusal_data refusal) spans in
    absurd (last.1.some refl)

pub ends_inside : (reached : Reached) (refusal : Refusal) → Truncates reached (Some refusal)
    → (n : ℕ) × (front : List Event) × EndsInside reached n front
ends_inside reached refusal end = ends_at reached reached.standing refusal refl end

-- no refusal is no span
pub no_end : (standing : Standing) → end_spans standing None ≡ []
no_end (Open n events) = refl
no_end (Held n refusal) = refl
no_end (Passing n) = refl

-- the facts of the end, where these spans come last
abbrev pub facts_at_end : ChoiceData → Before → Reached → List Span → List FactData
facts_at_end choice b reached last =
    span_facts choice.ignored (event_place b.read b.n reached.text) (event_time b.n reached.text)
    (lost_in reached.profile b.n reached.events) (b.past ++ past_of reached)
    (moved_spans b.n (filter (is_untold choice.ignored) last))

-- the fact of an end inside a packet
end_fact : EachWordHasPlace → (choice : ChoiceData) (b : Before) (reached : Reached)
    (n : ℕ) (front : List Event) (refusal : Refusal) (time : Option (List ℕ))
    → EndsBetween b.read → Spells reached.text reached.events → reached.standing ≡ Open n front
    → n + length front ≡ length reached.events → time ≡ event_time b.n reached.text (b.n + n)
    → other_address choice.ignored front ≡ None
    → refusal_fact (b.past ++ past_of reached)
    (head_as (capped (b.n + length reached.events)) (end_of_last_word (b.read ++ reached.text)) time) front None
    refusal.reason refusal.expected ∷ []
    ≡ facts_at_end choice b reached (end_spans reached.standing (Some refusal))
end_fact law choice b reached n front refusal time between spells standing counted timed none =
    let place = event_place b.read b.n reached.text in
    let times = event_time b.n reached.text in
    let before = b.past ++ past_of reached in
    let at : b.n + length reached.events ≡ (b.n + n) + length front = omega (arith, counted) in
    let one = λ (k : ℕ) (p : Place) (o : Option (List ℕ)). refusal_fact before (head_as (capped k) p o) front None
    refusal.reason refusal.expected ∷ [] in
    let facts = λ (l : List Span). span_facts choice.ignored place times (lost_in reached.profile b.n reached.events)
    (b.past ++ past_of reached) (moved_spans b.n l) in
    ap (λ (p : Place). one (b.n + length reached.events) p time) (sym
    (stands_behind_all law b.read reached.text b.n reached.events between spells))
    ∙ ap (λ (k : ℕ). one k (place k) time) at
    ∙ ap (one ((b.n + n) + length front) (place ((b.n + n) + length front))) timed
    ∙ sym (own_facts choice b place times (b.n + n)
    (one ((b.n + n) + length front) (place ((b.n + n) + length front)) (times (b.n + n)))
    (other_address choice.ignored front) none)
    ∙ ap facts (sym (packet_untold choice.ignored n front (refusal_data refusal) none))
    ∙ ap (λ (s : Standing). facts (filter (is_untold choice.ignored) (end_spans s (Some refusal)))) (sym standing)

-- .. at a place where it stands
pub placed_end_fact : EachWordHasPlace → (choice : ChoiceData) (b : Before) (reached : Reached)
    (n : ℕ) (front : List Event) (refusal : Refusal) (place : Place) (time : Option (List ℕ))
    → EndsBetween b.read → Spells reached.text reached.events → reached.standing ≡ Open n front
    → n + length front ≡ length reached.events → place ≡ end_of_last_word (b.read ++ reached.text)
    → time ≡ event_time b.n reached.text (b.n + n) → other_address choice.ignored front ≡ None
    → refusal_fact (b.past ++ past_of reached)
    (head_as (capped (b.n + length reached.events)) place time) front None refusal.reason refusal.expected ∷ []
    ≡ facts_at_end choice b reached (end_spans reached.standing (Some refusal))
placed_end_fact law choice b reached n front refusal place time between spells standing counted placed timed none =
    ap (λ (p : Place). refusal_fact (b.past ++ past_of reached)
    (head_as (capped (b.n + length reached.events)) p time) front None refusal.reason refusal.expected ∷ []) placed
    ∙ end_fact law choice b reached n front refusal time between spells standing counted timed none

-- that of an other is out
pub none_in_other : (choice : ChoiceData) (b : Before) (reached : Reached) (n : ℕ) (front : List Event)
    (refusal : Refusal) (addr : ℕ) → reached.standing ≡ Open n front → other_address choice.ignored front ≡ Some addr
    → facts_at_end choice b reached (end_spans reached.standing (Some refusal)) ≡ []
none_in_other choice b reached n front refusal addr standing is =
    let facts = λ (l : List Span). span_facts choice.ignored (event_place b.read b.n reached.text)
    (event_time b.n reached.text) (lost_in reached.profile b.n reached.events) (b.past ++ past_of reached)
    (moved_spans b.n l) in
    ap (λ (s : Standing). facts (filter (is_untold choice.ignored) (end_spans s (Some refusal)))) standing
    ∙ ap facts (other_told choice.ignored n front (refusal_data refusal) addr is)

-- ---- the text of the end

-- what is put out where these spans come last
abbrev pub text_at_end : ChoiceData → List DeviceParts → Before → Reached → List Span → List ℕ
text_at_end choice profile b reached last =
    fact_lines choice profile (facts_at_end choice b reached last)
    ++ last_lines choice profile (after_spans choice.ignored b.counts (reached.spans ++ last))

-- what was counted before the end
abbrev pub counted_so_far : Option (List ℕ) → Before → Reached → CountsData
counted_so_far ignored b reached = after_open ignored (after_spans ignored b.counts reached.spans) reached.standing

none_open_at : (ignored : Option (List ℕ)) (c : CountsData) (standing : Standing)
    → ((n : ℕ) (front : List Event) → standing ≡ Open n front → front ≡ []) → after_open ignored c standing ≡ c
none_open_at ignored c (Open n front) none = ap (λ (l : List Event). after_some c (other_address ignored l))
    (none n front refl)
none_open_at ignored c (Held n refusal) none = refl
none_open_at ignored c (Passing n) none = refl

-- between two packets
pub counts_at_no_end : (ignored : Option (List ℕ)) (b : Before) (reached : Reached) → IsNoneOutside reached None
    → counted_so_far ignored b reached ≡ after_spans ignored b.counts (reached.spans ++ end_spans reached.standing None)
counts_at_no_end ignored b reached none =
    none_open_at ignored (after_spans ignored b.counts reached.spans) reached.standing
    (λ n front standing. none n front standing refl)
    ∙ ap (after_spans ignored b.counts) (sym (append-nil reached.spans))
    ∙ ap (λ (l : List Span). after_spans ignored b.counts (reached.spans ++ l)) (sym (no_end reached.standing))

pub none_at_end : (choice : ChoiceData) (profile : List DeviceParts) (b : Before) (reached : Reached)
    → IsNoneOutside reached None
    → last_lines choice profile (counted_so_far choice.ignored b reached)
    ≡ text_at_end choice profile b reached (end_spans reached.standing None)
none_at_end choice profile b reached none =
    ap (last_lines choice profile) (counts_at_no_end choice.ignored b reached none)
    ∙ ap (λ (l : List Span). fact_lines choice profile (facts_at_end choice b reached l)
    ++ last_lines choice profile
    (after_spans choice.ignored b.counts (reached.spans ++ end_spans reached.standing None)))
    (sym (no_end reached.standing))

-- inside an other
pub counts_in_other : (ignored : Option (List ℕ)) (b : Before) (reached : Reached) (n : ℕ) (front : List Event)
    (refusal : Refusal) (addr : ℕ) → reached.standing ≡ Open n front → other_address ignored front ≡ Some addr
    → counted_so_far ignored b reached
    ≡ after_spans ignored b.counts (reached.spans ++ end_spans reached.standing (Some refusal))
counts_in_other ignored b reached n front refusal addr standing is =
    let counts = after_spans ignored b.counts reached.spans in
    let span = TruncatedSpan n front (refusal_data refusal) in
    ap (after_open ignored counts) standing ∙ ap (after_some counts) is
    ∙ sym (ap (λ (o : Option ℕ). after_either counts o span) is)
    ∙ sym (counts_append ignored b.counts reached.spans (span ∷ []))
    ∙ ap (λ (s : Standing). after_spans ignored b.counts (reached.spans ++ end_spans s (Some refusal))) (sym standing)

pub other_at_end : (choice : ChoiceData) (profile : List DeviceParts) (b : Before) (reached : Reached) (n : ℕ)
    (front : List Event) (refusal : Refusal) (addr : ℕ) → reached.standing ≡ Open n front
    → other_address choice.ignored front ≡ Some addr
    → last_lines choice profile (counted_so_far choice.ignored b reached)
    ≡ text_at_end choice profile b reached (end_spans reached.standing (Some refusal))
other_at_end choice profile b reached n front refusal addr standing is =
    let text = λ (l : List Span). fact_lines choice profile
    (span_facts choice.ignored (event_place b.read b.n reached.text)
    (event_time b.n reached.text) (lost_in reached.profile b.n reached.events) (b.past ++ past_of reached)
    (moved_spans b.n l))
    ++ last_lines choice profile
    (after_spans choice.ignored b.counts (reached.spans ++ end_spans reached.standing (Some refusal))) in
    ap (last_lines choice profile)
    (counts_in_other choice.ignored b reached n front refusal addr standing is)
    ∙ ap text (sym (other_told choice.ignored n front (refusal_data refusal) addr is))
    ∙ ap (λ (s : Standing). text (filter (is_untold choice.ignored) (end_spans s (Some refusal)))) (sym standing)

-- inside a packet
pub counts_at_end : (ignored : Option (List ℕ)) (b : Before) (reached : Reached) (n : ℕ) (front : List Event)
    (refusal : Refusal) → reached.standing ≡ Open n front → other_address ignored front ≡ None
    → after_refusal (counted_so_far ignored b reached) (said_device front)
    ≡ after_spans ignored b.counts (reached.spans ++ end_spans reached.standing (Some refusal))
counts_at_end ignored b reached n front refusal standing none =
    let counts = after_spans ignored b.counts reached.spans in
    let span = TruncatedSpan n front (refusal_data refusal) in
    ap (λ (c : CountsData). after_refusal c (said_device front))
    (ap (after_open ignored counts) standing ∙ ap (after_some counts) none)
    ∙ sym (ap (λ (o : Option ℕ). after_either counts o span) none)
    ∙ sym (counts_append ignored b.counts reached.spans (span ∷ []))
    ∙ ap (λ (s : Standing). after_spans ignored b.counts (reached.spans ++ end_spans s (Some refusal))) (sym standing)

pub one_at_end : EachWordHasPlace → (choice : ChoiceData) (profile : List DeviceParts) (b : Before) (reached : Reached)
    (n : ℕ) (front : List Event) (refusal : Refusal) (place : Place) (time : Option (List ℕ))
    → EndsBetween b.read → Spells reached.text reached.events → reached.standing ≡ Open n front
    → n + length front ≡ length reached.events → place ≡ end_of_last_word (b.read ++ reached.text)
    → time ≡ event_time b.n reached.text (b.n + n) → other_address choice.ignored front ≡ None
    → fact_lines choice profile
    (refusal_fact (b.past ++ past_of reached)
    (head_as (capped (b.n + length reached.events)) place time) front None refusal.reason refusal.expected ∷ [])
    ++ last_lines choice profile (after_refusal (counted_so_far choice.ignored b reached) (said_device front))
    ≡ text_at_end choice profile b reached (end_spans reached.standing (Some refusal))
one_at_end law choice profile b reached n front refusal place time between spells standing counted placed timed none =
    let counts = after_refusal (counted_so_far choice.ignored b reached) (said_device front) in
    ap (λ (fs : List FactData). fact_lines choice profile fs ++ last_lines choice profile counts)
    (placed_end_fact law choice b reached n front refusal place time between spells standing counted placed timed none)
    ∙ ap (λ (c : CountsData). fact_lines choice profile
    (facts_at_end choice b reached (end_spans reached.standing (Some refusal))) ++ last_lines choice profile c)
    (counts_at_end choice.ignored b reached n front refusal standing none)
