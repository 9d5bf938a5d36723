-- What is told of the bytes of a capture.
use Rattle.std.specs.Prelude.{◌≡◌, ℕ, ◌+◌, Option, List, [], ◌∷◌, ◌++◌, filter, length}
use Rattle.pmb_bus.specs.declared.event.Event.{Event}
use Rattle.pmb_bus.specs.Event.{character}
use Rattle.pmb_bus.specs.Text.{FirstBadWord, Spells, front_word}
use Rattle.pmb_command.specs.Parts.{DeviceParts}
use Rattle.pmb_facts.specs.Fact.{FactData}
use Rattle.pmb_io.specs.Count.{capped}
use Rattle.pmb_io.specs.Lines.{HasNoLf}
use Rattle.pmb_io.specs.declared.tally.Tally.{Tally}
use Rattle.pmb_scan.specs.declared.after_bad_token.AfterBadToken.{AfterBadToken}
use Rattle.pmb_scan.specs.declared.after_bad_token.AfterBadToken.TheVariants.{End, Continue}
use Rattle.pmb_io.specs.Tally.{IsTallyOf}
use Rattle.pmb_json_objects.specs.Counts.{CountsData, after_bad_token}
use Rattle.pmb_json_objects.specs.Head.{Head}
use Rattle.pmb_places.specs.Text.{place_behind}
use Rattle.pmb_spans.specs.Spans.{Span, SpansFrom}
use Rattle.pmb_fact_stream.specs.Before.{Before, at_first, drop_line}
use Rattle.pmb_fact_stream.specs.Choice.{ChoiceData}
use Rattle.pmb_fact_stream.specs.Lines.{fact_lines, last_lines}
use Rattle.pmb_fact_stream.specs.Lost.{lost_in}
use Rattle.pmb_fact_stream.specs.Others.{is_told}
use Rattle.pmb_fact_stream.specs.Spans.{after_spans, bad_token_fact, event_place, event_time, past_in, span_facts}
use Rattle.pmb_fact_stream.specs.UnderWay.{open_time}
use Rattle.pmb_unknown_start.specs.Past.{PastData}

-- ---- where reading begins anew

-- A word that is no token, with the rest of its line, and before it bytes that spell events,
-- which read as spans. It begins `line`.
pub record BadLine : Type 0 where
  pub front : List ℕ
  pub events : List Event
  pub spans : List Span
  pub line : List ℕ

-- what went before it, in those bytes
abbrev pub past_before : List DeviceParts → Before → BadLine → List PastData
past_before profile b bad = past_in (lost_in profile b.n bad.events) bad.spans

-- after those bytes, where the word stands, and these addresses are ignored
abbrev pub at_word : Option (List ℕ) → List DeviceParts → Before → BadLine → Before
at_word ignored profile b bad = record {
  read = b.read ++ bad.front;
  n = b.n + length bad.events;
  past = b.past ++ past_before profile b bad;
  counts = after_spans ignored b.counts bad.spans;
}

-- after that line and its LF; what was dropped was no event, and nobody knows what it said
abbrev pub behind_line : Option (List ℕ) → List DeviceParts → Before → BadLine → Before
behind_line ignored profile b bad = drop_line (record {
  read = b.read ++ bad.front ++ bad.line ++ character "\n" ∷ [];
  n = b.n + length bad.events;
  past = b.past ++ past_before profile b bad;
  counts = after_bad_token (after_spans ignored b.counts bad.spans);
})

-- nothing, or LF and what stands after it
abbrev pub IsBehindLine : List ℕ → Type 0
IsBehindLine [] = Unit {0}
IsBehindLine (byte ∷ bytes) = byte ≡ character "\n"

-- What holds where reading begins anew after a LF, if it is to continue there and there is one; and
-- else.
abbrev pub GoesOn : AfterBadToken → List ℕ → (List ℕ → Type 0) → Type 0 → Type 0
GoesOn End rest Holds Else = Else
GoesOn Continue [] Holds Else = Else
GoesOn Continue (lf ∷ bytes) Holds Else = Holds bytes

-- where the word stands, with the time of what is under way there
abbrev pub word_head : Before → BadLine → Head
word_head b bad = record {
  at = capped (b.n + length bad.events);
  place = place_behind (b.read ++ bad.front);
  time = open_time bad.front bad.events;
}

abbrev pub word_fact : Before → BadLine → FactData
word_fact b bad = bad_token_fact (word_head b bad) (front_word bad.line)

-- ---- facts

module _ (ignored : Option (List ℕ)) where
  -- Those of spans of bytes that are read from there on, after what went before: each with the
  -- place and the time that the bytes tell.
  abbrev pub text_facts : Before → List ℕ → (lost : ℕ → List Event → List PastData) → List PastData → List Span
      → List FactData
  text_facts b bytes = span_facts ignored (event_place b.read b.n bytes) (event_time b.n bytes)

  module _ (profile : List DeviceParts) where
    -- the facts of what stands before the word, and that of the word
    abbrev pub front_facts : Before → BadLine → List FactData
    front_facts b bad = text_facts b (bad.front ++ bad.line) (lost_in profile b.n bad.events) b.past bad.spans

    abbrev pub bad_line_facts : Before → BadLine → List FactData
    bad_line_facts b bad = front_facts b bad ++ word_fact b bad ∷ []

    -- Bytes that spell events, read from there on to their end.
    pub record ReadsToEnd (b : Before) (bytes : List ℕ) (facts : List FactData) (counts : CountsData) : Type 0 where
      pub events : List Event
      pub spans : List Span
      pub spells : Spells bytes events
      pub reads : SpansFrom profile b.n events spans
      pub all : facts ≡ text_facts b bytes (lost_in profile b.n events) b.past spans
      pub behind : counts ≡ after_spans ignored b.counts spans

    -- Bytes up to the first word that is no token, and the rest of its line, read from there on. A
    -- packet under way there is not reported, but an other is, since its address came.
    pub record IsBadLine (b : Before) (bad : BadLine) : Type 0 where
      pub word : FirstBadWord (bad.front ++ bad.line) bad.events (length bad.front)
      pub in_line : HasNoLf bad.line
      pub all : List Span
      pub reads : SpansFrom profile b.n bad.events all
      pub reported : bad.spans ≡ filter (is_told ignored) all

    -- The facts of bytes from there on, with these bad lines, and what was counted after all.
    -- Reading ends at the first bad line, or, where it is to continue, begins anew after each.
    abbrev pub FactsFrom : AfterBadToken → Before → List ℕ → List BadLine → List FactData → CountsData → Type 0
    FactsFrom after b bytes [] facts counts = ReadsToEnd b bytes facts counts
    FactsFrom after b bytes (bad ∷ more) facts counts =
        (rest : List ℕ) × (others : List FactData) × (bytes ≡ bad.front ++ bad.line ++ rest) × IsBehindLine rest
        × IsBadLine b bad
        × (facts ≡ bad_line_facts b bad ++ others)
        × GoesOn after rest (λ behind. FactsFrom after (behind_line ignored profile b bad) behind more others counts)
        ((more ≡ []) × (others ≡ []) × (counts ≡ (behind_line ignored profile b bad).counts))

-- The text that is written for the bytes of a whole capture, the lines of its facts and the last ones,
-- and the tally, in which a bad token counts as a refusal.
pub record WritesTold (choice : ChoiceData) (profile : List DeviceParts) (after : AfterBadToken) (bytes : List ℕ)
    (text : List ℕ) (tally : Tally) : Type 0 where
  pub bad : List BadLine
  pub facts : List FactData
  pub counts : CountsData
  pub from_first : FactsFrom choice.ignored profile after at_first bytes bad facts counts
  pub lines : text ≡ fact_lines choice profile facts ++ last_lines choice profile counts
  pub tallied : IsTallyOf counts.packets (counts.refusals + counts.bad_tokens) tally
