-- The facts of a piece of a capture beside those of the whole: the whole has as many, and what holds of
-- facts at other places, with more that went before them, holds of them (`HoldsAcross`). For the laws
-- `texts_of_pieces_say_no_more` and `pieces_say_the_same`. First after any point of the piece
-- (`onwards`), then for a piece that begins after a cut (`cut`). Events of the piece are counted
-- from the cut, so its spans are moved; what went before the cut comes before its facts in the whole
-- alone.
use Rattle.std.proofs.Common.{◌≡◌, ℕ, ◌+◌, ◌-◌, true, Option, List, [], ◌∷◌, ◌++◌, filter}
use Rattle.std.proofs.Common.{length, refl}
use Rattle.std.proofs.Common.{sym, ◌∙◌, ap, subst, append_assoc, append-nil, length-append, arith}
use Rattle.std.specs.List.{All}
use Rattle.std.proofs.lemmas.List.Elements.{filter-append}
use Rattle.pmb_bus.specs.declared.event.Event.{Event}
use Rattle.pmb_bus.specs.Text.{EndsBetween, FirstBadWord, Spells, front_word}
use Rattle.pmb_capture.specs.Cut.{EndsAtCut}
use Rattle.pmb_command.specs.Parts.{DeviceParts}
use Rattle.pmb_places.specs.declared.places.Place.{Place}
use Rattle.pmb_spans.specs.Spans.{Span, Spans, SpansFrom, is_whole, moved_spans}
use Rattle.pmb_transaction.specs.Cut.{EndsWithStop}
use Rattle.pmb_scan.specs.declared.after_bad_token.AfterBadToken.{AfterBadToken}
use Rattle.pmb_scan.specs.declared.after_bad_token.AfterBadToken.TheVariants.{End, Continue}
use Rattle.pmb_fact_stream.specs.Before.{Before, at_first}
use Rattle.pmb_fact_stream.specs.Others.{is_told}
use Rattle.pmb_json_objects.specs.Counts.{CountsData, nothing_counted}
use Rattle.pmb_json_objects.specs.Head.{Head}
use Rattle.pmb_facts.specs.Fact.{FactData}
use Rattle.pmb_json.specs.Pieces.{Timing}
use Rattle.pmb_fact_stream.specs.Lost.{lost_in}
use Rattle.pmb_fact_stream.specs.Spans.{after_spans, bad_token_fact, event_place, event_time, past_in, span_facts}
use Rattle.pmb_fact_stream.specs.UnderWay.{open_time}
use Rattle.pmb_times.specs.Times.{time_at}
use Rattle.pmb_telling.specs.Text.{BadLine, FactsFrom, GoesOn, bad_line_facts, behind_line, front_facts}
use Rattle.pmb_telling.specs.Text.{past_before, text_facts, word_fact, word_head}
use Rattle.pmb_unknown_start.specs.Past.{PastData, Dropped}
use Rattle.pmb_json.proofs.PieceMembers.{TellEach, Tells}
use Rattle.pmb_json.proofs.PieceTimes.{open_tells, piece_tells, tells_same}
use Rattle.pmb_json.proofs.Losses.{LoseTheSame, LosesOne, lost_behind, loses_one, past_beside, past_stays, same_lost}
use Rattle.pmb_fact_stream.proofs.Losing.{past_both}
use Rattle.pmb_fact_stream.proofs.Spans.{facts_append}
use Rattle.pmb_telling.proofs.Facts.{all_told, told_moved}

-- What holds of facts of a piece and those of the whole beside them, before which m events more come, and
-- what is said in them: it holds of none, of both of two lists, of the facts of spans, and of a word that
-- is no token.
pub record HoldsAcross (ignored : Option (List ℕ)) (timing : Timing) (m : ℕ) (before : List PastData)
    (Holds : List FactData → List FactData → Type 0) : Type 0 where
  pub none : Holds [] []
  pub both : (a b c d : List FactData) → Holds a b → Holds c d → Holds (a ++ c) (b ++ d)
  pub spans : (place there : ℕ → Place) (times theirs : ℕ → Option (List ℕ))
      (lost gone : ℕ → List Event → List PastData) → LosesOne lost → LoseTheSame m lost gone → (x y : List PastData)
      → y ≡ before ++ x → TellEach timing m times theirs → (spans : List Span)
      → Holds (span_facts ignored place times lost x spans)
      (span_facts ignored there theirs gone y (moved_spans m spans))
  pub word : (head there : Head) → Tells timing head.time there.time → (word : List ℕ)
      → Holds (bad_token_fact head word ∷ []) (bad_token_fact there word ∷ [])

-- what the laws on spans and on spelling say of a capture that is cut
pub record CutLaws (profile : List DeviceParts) : Type 0 where
  -- `spans_move`
  pub spans_move : (n k : ℕ) (events : List Event) (spans : List Span) → SpansFrom profile k events spans
      → SpansFrom profile (n + k) events (moved_spans n spans)
  -- `texts_may_be_cut_between_words`
  pub spelled : (x y : List ℕ) (events more : List Event) → EndsBetween x → Spells x events → Spells y more
      → Spells (x ++ y) (events ++ more)
  pub bad_word : (x y : List ℕ) (events more : List Event) (place : ℕ) → EndsBetween x → Spells x events
      → FirstBadWord y more place → FirstBadWord (x ++ y) (events ++ more) (length x + place)
  -- `spans_may_be_cut`
  pub joined : (x y : List Event) (spans others : List Span) → EndsWithStop x → Spans profile x spans
      → Spans profile y others → Spans profile (x ++ y) (spans ++ moved_spans (length x) others)
  pub whole : (x : List Event) (spans : List Span) → EndsWithStop x → Spans profile x spans
      → All (λ span. is_whole span ≡ true) spans

module _ (ignored : Option (List ℕ)) (timing : Timing) (profile : List DeviceParts) (laws : CutLaws profile) (m : ℕ)
    (before : List PastData) (Holds : List FactData → List FactData → Type 0)
    (holds : HoldsAcross ignored timing m before Holds) where
  -- where the piece stands and where the whole does, with m events and what is said in them before the
  -- piece
  record Beside (b w : Before) : Type 0 where
    -- events are counted from the cut in the piece, from the front in the whole
    n : w.n ≡ m + b.n
    -- the whole has what went before the cut too
    past : w.past ≡ before ++ b.past

  -- the same bytes tell the same times
  times_beside : (b w : Before) → Beside b w → (bytes : List ℕ)
      → TellEach timing m (event_time b.n bytes) (event_time w.n bytes)
  times_beside b w beside bytes at =
      let same : (m + at) - w.n ≡ at - b.n = omega (arith, beside.n) in
      tells_same timing (time_at bytes (at - b.n)) (time_at bytes ((m + at) - w.n)) (ap (time_at bytes) same)

  spans_beside : (b w : Before) → Beside b w → (bytes : List ℕ) (events : List Event) (spans : List Span)
      → Holds (text_facts ignored b bytes (lost_in profile b.n events) b.past spans)
      (text_facts ignored w bytes (lost_in profile w.n events) w.past (moved_spans m spans))
  spans_beside b w beside bytes events spans =
      holds.spans (event_place b.read b.n bytes) (event_place w.read w.n bytes) (event_time b.n bytes)
      (event_time w.n bytes) (lost_in profile b.n events) (lost_in profile w.n events) (loses_one profile b.n events)
      (same_lost profile m b.n w.n events beside.n) b.past w.past beside.past (times_beside b w beside bytes) spans

  reads_beside : (b w : Before) → Beside b w → (events : List Event) (spans : List Span)
      → SpansFrom profile b.n events spans
      → SpansFrom profile w.n events (moved_spans m spans)
  reads_beside b w beside events spans reads = subst (λ (k : ℕ). SpansFrom profile k events (moved_spans m spans))
      (sym beside.n) (laws.spans_move m b.n events spans reads)

  -- ---- on from there

  -- the whole has facts from there on, of which it holds
  record Others (after : AfterBadToken) (w : Before) (bytes : List ℕ) (facts : List FactData) : Type 0 where
    bad : List BadLine
    others : List FactData
    counts : CountsData
    from_there : FactsFrom ignored profile after w bytes bad others counts
    beside : Holds facts others

  -- .. and after a bad line
  record OthersBehind (after : AfterBadToken) (w : Before) (line : BadLine) (rest : List ℕ)
      (facts : List FactData) : Type 0 where
    -- the other bad lines of the whole, its other facts and its counts
    more : List BadLine
    others : List FactData
    counts : CountsData
    behind : GoesOn after rest
        (λ bytes. FactsFrom ignored profile after (behind_line ignored profile w line) bytes more others counts)
        ((more ≡ []) × (others ≡ []) × (counts ≡ (behind_line ignored profile w line).counts))
    beside : Holds facts others

  others_behind : (after : AfterBadToken) (b w : Before) (x y : BadLine) (rest : List ℕ) (more : List BadLine)
      (facts : List FactData) (c : CountsData)
      → ((bytes : List ℕ) → FactsFrom ignored profile Continue (behind_line ignored profile b x) bytes more facts c
      → Others Continue (behind_line ignored profile w y) bytes facts)
      → GoesOn after rest (λ bytes. FactsFrom ignored profile after (behind_line ignored profile b x) bytes more facts c)
      ((more ≡ []) × (facts ≡ []) × (c ≡ (behind_line ignored profile b x).counts))
      → OthersBehind after w y rest facts
  -- reading ends at the bad line, in both
  others_behind End b w x y rest more facts c later goes = record {
    more = [];
    others = [];
    counts = (behind_line ignored profile w y).counts;
    behind = (refl, refl, refl);
    beside = subst (λ (os : List FactData). Holds os []) (sym goes.1) holds.none;
  }
  -- nothing follows it, in both
  others_behind Continue b w x y [] more facts c later goes = record {
    more = [];
    others = [];
    counts = (behind_line ignored profile w y).counts;
    behind = (refl, refl, refl);
    beside = subst (λ (os : List FactData). Holds os []) (sym goes.1) holds.none;
  }
  -- its LF follows, and both read on
  others_behind Continue b w x y (lf ∷ bytes) more facts c later goes =
      let there = later bytes goes in
      record {
        more = there.bad;
        others = there.others;
        counts = there.counts;
        behind = there.from_there;
        beside = there.beside;
      }

  line_beside : (b w : Before) → Beside b w → (bad : BadLine)
      → Beside (behind_line ignored profile b bad) (behind_line ignored profile w
      (record { front = bad.front; events = bad.events; spans = moved_spans m bad.spans; line = bad.line }))
  line_beside b w beside bad = record {
    n = omega (arith, beside.n);
    past =
        ap (λ (l : List PastData). l ++ Dropped ∷ [])
        (ap (λ (l : List PastData). l ++ past_in (lost_in profile w.n bad.events) (moved_spans m bad.spans))
        beside.past
        ∙ ap (λ (l : List PastData). (before ++ b.past) ++ l)
        (past_beside m (lost_in profile b.n bad.events) (lost_in profile w.n bad.events)
        (same_lost profile m b.n w.n bad.events beside.n) bad.spans)
        ∙ append_assoc before b.past (past_before profile b bad))
        ∙ append_assoc before (b.past ++ past_before profile b bad) (Dropped ∷ []);
  }

  onwards : (after : AfterBadToken) (bads : List BadLine) (b w : Before) → Beside b w
      → (bytes : List ℕ) (facts : List FactData) (c : CountsData)
      → FactsFrom ignored profile after b bytes bads facts c → Others after w bytes facts
  -- no bad line is left: the events that are left, moved
  onwards after [] b w beside bytes facts c x = record {
    bad = [];
    others = text_facts ignored w bytes (lost_in profile w.n x.events) w.past (moved_spans m x.spans);
    counts = after_spans ignored w.counts (moved_spans m x.spans);
    from_there = record {
      events = x.events;
      spans = moved_spans m x.spans;
      spells = x.spells;
      reads = reads_beside b w beside x.events x.spans x.reads;
      all = refl;
      behind = refl;
    };
    beside = subst (λ (os : List FactData). Holds os (text_facts ignored w bytes (lost_in profile w.n x.events) w.past
        (moved_spans m x.spans)))
        (sym x.all) (spans_beside b w beside bytes x.events x.spans);
  }
  -- a bad line: its events are moved, then the rest of both after it
  onwards after (bad ∷ more) b w beside bytes facts c x =
      let moved : BadLine = record {
        front = bad.front;
        events = bad.events;
        spans = moved_spans m bad.spans;
        line =
            bad.line;
      } in
      -- x has what follows the line and the facts after it (0, 1), the split (2), that the line
      -- ends there (3) and is bad (4), its facts (5), and how reading goes on (6)
      let line = x.4 in
      let there = others_behind after b w bad moved x.0 more x.1 c
      (λ next y. onwards Continue more (behind_line ignored profile b bad) (behind_line ignored profile w moved)
      (line_beside b w beside bad) next x.1 c y)
      x.6 in record {
        bad = moved ∷ there.more;
        others = bad_line_facts ignored profile w moved ++ there.others;
        counts = there.counts;
        -- in the whole it is the same line, its spans moved
        from_there = (
          x.0,
          there.others,
          x.2,
          x.3,
          record {
            word = line.word;
            in_line = line.in_line;
            all = moved_spans m line.all;
            reads = reads_beside b w beside bad.events line.all line.reads;
            reported = ap (moved_spans m) line.reported ∙ sym (told_moved ignored m line.all);
          },
          refl,
          there.behind,
        );
        -- it holds of the facts of the line, and of those after it
        beside = subst (λ (os : List FactData). Holds os (bad_line_facts ignored profile w moved ++ there.others)) (sym x.5)
            (
            holds.both (bad_line_facts ignored profile b bad) (bad_line_facts ignored profile w moved) x.1 there.others
            (holds.both (front_facts ignored profile b bad) (front_facts ignored profile w moved) (word_fact b bad ∷ [])
            (word_fact w moved ∷ []) (spans_beside b w beside (bad.front ++ bad.line) bad.events bad.spans)
            (holds.word (word_head b bad) (word_head w moved)
            (tells_same timing (open_time bad.front bad.events) (open_time bad.front bad.events) refl)
            (front_word bad.line)))
            there.beside
            );
      }

-- ---- cut after a first piece

-- a first piece of a capture, and its spans
pub record FirstPiece (profile : List DeviceParts) (front : List ℕ) : Type 0 where
  pub cut : EndsAtCut front
  pub spans : List Span
  pub reads : Spans profile cut.events spans

-- the facts of the spans of a first piece that begins this text
abbrev pub firsts_in : Option (List ℕ) → (ℕ → List Event → List PastData) → List Span → List ℕ → List FactData
firsts_in ignored lost spans text = text_facts ignored at_first text lost [] spans

module _ (ignored : Option (List ℕ)) (timing : Timing) (profile : List DeviceParts) (laws : CutLaws profile)
    (front : List ℕ) (first : FirstPiece profile front) (Holds : List FactData → List FactData → Type 0)
    (holds : HoldsAcross ignored timing (length first.cut.events)
    (past_in (lost_in profile 0 first.cut.events) first.spans) Holds)
    (tells : (back : List ℕ) (k : ℕ) → Tells timing (time_at back k)
    (time_at (front ++ back) (length first.cut.events + k))) where
  abbrev own : List Event
  own = first.cut.events

  abbrev m : ℕ
  m = length own

  abbrev before : List PastData
  before = past_in (lost_in profile 0 own) first.spans

  -- what is lost in the whole, by the events of the rest
  abbrev whole_lost : List Event → ℕ → List Event → List PastData
  whole_lost events = lost_in profile 0 (own ++ events)

  -- what went before the rest is the same in the whole
  same_before : (events : List Event) → past_in (whole_lost events) first.spans ≡ before
  same_before events = past_stays profile own events first.spans first.cut.stop first.reads

  -- The whole has the facts of the first piece, by its text or by that up to where its first bad line ends,
  -- and then others, of which it holds.
  pub record WholeOthers (after : AfterBadToken) (bytes : List ℕ) (facts : List FactData) : Type 0 where
    pub bad : List BadLine
    pub text : List ℕ
    pub lost : ℕ → List Event → List PastData
    pub others : List FactData
    pub counts : CountsData
    pub from_first : FactsFrom ignored profile after at_first bytes bad
        (firsts_in ignored lost first.spans text ++ others) counts
    pub beside : Holds facts others

  -- a bad line of the rest as it is in the whole
  abbrev in_whole : BadLine → BadLine
  in_whole bad = record {
    front = front ++ bad.front;
    events = own ++ bad.events;
    spans = first.spans ++ moved_spans m bad.spans;
    line = bad.line;
  }

  bad_word_there : (bad : BadLine) → FirstBadWord (bad.front ++ bad.line) bad.events (length bad.front)
      → FirstBadWord (front ++ bad.front ++ bad.line) (own ++ bad.events) (length (front ++ bad.front))
  bad_word_there bad word =
      subst (λ (k : ℕ). FirstBadWord (front ++ bad.front ++ bad.line) (own ++ bad.events) k)
      (sym (length-append front bad.front))
      (subst (λ (text : List ℕ). FirstBadWord text (own ++ bad.events) (length front + length bad.front))
      (sym (append_assoc front bad.front bad.line))
      (laws.bad_word front (bad.front ++ bad.line) own bad.events (length bad.front) first.cut.between first.cut.spells
      word))

  split_there : (bad : BadLine) (back rest : List ℕ) → back ≡ bad.front ++ bad.line ++ rest
      → front ++ back ≡ front ++ bad.front ++ bad.line ++ rest
  split_there bad back rest split =
      ap (λ (l : List ℕ). front ++ l) split
      ∙ sym (append_assoc front (bad.front ++ bad.line) rest)
      ∙ ap (λ (l : List ℕ). l ++ rest) (sym (append_assoc front bad.front bad.line))

  reported_there : (bad : BadLine) (all : List Span) → bad.spans ≡ filter (is_told ignored) all
      → first.spans ++ moved_spans m bad.spans ≡ filter (is_told ignored) (first.spans ++ moved_spans m all)
  reported_there bad all reported =
      ap (λ (l : List Span). first.spans ++ moved_spans m l) reported
      ∙ ap (λ (l : List Span). first.spans ++ l) (sym (told_moved ignored m all))
      ∙ ap (λ (l : List Span). l ++ filter (is_told ignored) (moved_spans m all))
      (sym (all_told ignored first.spans (laws.whole own first.spans first.cut.stop first.reads)))
      ∙ sym (filter-append (is_told ignored) first.spans (moved_spans m all))

  line_beside_there : (bad : BadLine) → Beside ignored timing profile laws m before Holds holds
      (behind_line ignored profile at_first bad) (behind_line ignored profile at_first (in_whole bad))
  line_beside_there bad = record {
    n = omega (arith, length-append own bad.events);
    past =
        ap (λ (l : List PastData). l ++ Dropped ∷ [])
        (past_both (whole_lost bad.events) first.spans (moved_spans m bad.spans)
        ∙ ap (λ (l : List PastData). l ++ past_in (whole_lost bad.events) (moved_spans m bad.spans))
        (same_before bad.events)
        ∙ ap (λ (l : List PastData). before ++ l) (past_beside m (lost_in profile 0 bad.events) (whole_lost bad.events)
        (lost_behind profile own bad.events) bad.spans))
        ∙ append_assoc before (past_before profile at_first bad) (Dropped ∷ []);
  }

  pub cut : (after : AfterBadToken) (bads : List BadLine) (back : List ℕ) (facts : List FactData) (c : CountsData)
      → FactsFrom ignored profile after at_first back bads facts c → WholeOthers after (front ++ back) facts
  -- no bad line: the first piece and the rest are read as one
  cut after [] back facts c x =
      let place = event_place [] 0 (front ++ back) in
      let times = event_time 0 (front ++ back) in
      let lost = whole_lost x.events in
      let firsts = firsts_in ignored lost first.spans (front ++ back) in
      let others = text_facts ignored at_first (front ++ back) lost before (moved_spans m x.spans) in record {
        bad = [];
        text = front ++ back;
        lost = lost;
        others = others;
        counts = after_spans ignored nothing_counted (first.spans ++ moved_spans m x.spans);
        from_first = record {
          events = own ++ x.events;
          spans = first.spans ++ moved_spans m x.spans;
          spells = laws.spelled front back own x.events first.cut.between first.cut.spells x.spells;
          reads = laws.joined own x.events first.spans x.spans first.cut.stop first.reads x.reads;
          all = ap (λ (past : List PastData). firsts ++ text_facts ignored at_first (front ++ back) lost past
              (moved_spans m x.spans)) (sym (same_before x.events))
              ∙ sym (facts_append ignored place times lost [] first.spans (moved_spans m x.spans));
          behind = refl;
        };
        beside = subst (λ (os : List FactData). Holds os others) (sym x.all)
            (holds.spans (event_place [] 0 back) place (event_time 0 back) times (lost_in profile 0 x.events) lost
            (loses_one profile 0 x.events) (lost_behind profile own x.events) [] before (sym (append-nil before))
            (piece_tells timing front own first.cut.stop tells back) x.spans);
      }
  -- a bad line in the rest: it is the first of the whole, and before it stand the first piece's
  -- spans
  cut after (bad ∷ more) back facts c x =
      -- x has what follows the line and the facts after it (0, 1), the split (2), that the line
      -- ends there (3) and is bad (4), its facts (5), and how reading goes on (6)
      let line = x.4 in
      let there = others_behind ignored timing profile laws m before Holds holds after at_first at_first bad
      (in_whole bad) x.0 more x.1 c
      (λ next y. onwards ignored timing profile laws m before Holds holds Continue more
      (behind_line ignored profile at_first bad) (behind_line ignored profile at_first (in_whole bad)) (line_beside_there bad) next x.1
      c y) x.6 in
      -- where events stand in the rest and in the whole, the first piece's facts, and the line's
      -- in the whole
      let text = bad.front ++ bad.line in
      let whole = front ++ bad.front ++ bad.line in
      let place = event_place [] 0 whole in
      let times = event_time 0 whole in
      let told = subst (λ (l : List ℕ). TellEach timing m (event_time 0 text) (event_time 0 l))
      (sym (append_assoc front bad.front bad.line)) (piece_tells timing front own first.cut.stop tells text) in
      let lost = whole_lost bad.events in
      let firsts = firsts_in ignored lost first.spans whole in
      let moved = text_facts ignored at_first whole lost before (moved_spans m bad.spans) in
      let word = word_fact at_first (in_whole bad) ∷ [] in record {
        bad = in_whole bad ∷ there.more;
        text = whole;
        lost = lost;
        others = (moved ++ word) ++ there.others;
        counts = there.counts;
        -- the line is the first bad one of the whole, after the first piece
        from_first = (
          x.0,
          there.others,
          split_there bad back x.0 x.2,
          x.3,
          record {
            word = bad_word_there bad line.word;
            in_line = line.in_line;
            all = first.spans ++ moved_spans m line.all;
            reads = laws.joined own bad.events first.spans line.all first.cut.stop first.reads line.reads;
            reported = reported_there bad line.all line.reported;
          },
          sym (append_assoc firsts (moved ++ word) there.others)
              ∙ ap (λ (os : List FactData). os ++ there.others) (sym (append_assoc firsts moved word))
              ∙ ap (λ (os : List FactData). (os ++ word) ++ there.others)
              (ap (λ (past : List PastData). firsts ++ text_facts ignored at_first whole lost past
              (moved_spans m bad.spans)) (sym (same_before bad.events))
              ∙ sym (facts_append ignored place times lost [] first.spans (moved_spans m bad.spans))),
          there.behind,
        );
        -- it holds of the facts of the line, and of those after it
        beside = subst (λ (os : List FactData). Holds os ((moved ++ word) ++ there.others)) (sym x.5)
            (
            holds.both (bad_line_facts ignored profile at_first bad) (moved ++ word) x.1 there.others
            (holds.both (front_facts ignored profile at_first bad) moved (word_fact at_first bad ∷ []) word
            (holds.spans (event_place [] 0 text) place (event_time 0 text) times (lost_in profile 0 bad.events) lost
            (loses_one profile 0 bad.events) (lost_behind profile own bad.events) [] before (sym (append-nil before))
            told bad.spans)
            (holds.word (word_head at_first bad) (word_head at_first (in_whole bad))
            (open_tells timing front own first.cut.stop tells bad.front bad.events) (front_word bad.line)))
            there.beside
            );
      }
