-- Something is written for any bytes: facts, lines and a tally. For the law `some_text_is_told`. A text
-- spells events, or it has a first word that is no token; then its line is one bad line, and the
-- rest after it is shorter.
use Rattle.std.proofs.Common.{◌≡◌, ℕ, suc, zero, ◌+◌, ◌<◌, ◌≤◌, ◌⊎◌, inl, inr, List, [], ◌∷◌, ◌++◌, filter, length}
use Rattle.std.proofs.Common.{refl, sym, ◌∙◌, ap, append_assoc, arith, length-append}
use Rattle.pmb_bus.specs.declared.event.Event.{Event}
use Rattle.pmb_bus.specs.Text.{FirstBadWord, Spells}
use Rattle.pmb_command.specs.Parts.{DeviceParts}
use Rattle.pmb_io.specs.Count.{capped}
use Rattle.pmb_io.specs.declared.tally.Tally.{Tally}
use Rattle.pmb_spans.specs.Spans.{Span, SpansFrom}
use Rattle.pmb_scan.specs.declared.after_bad_token.AfterBadToken.{AfterBadToken}
use Rattle.pmb_scan.specs.declared.after_bad_token.AfterBadToken.TheVariants.{End, Continue}
use Rattle.pmb_fact_stream.specs.Lost.{lost_in}
use Rattle.pmb_fact_stream.specs.Before.{Before, at_first}
use Rattle.pmb_fact_stream.specs.Choice.{ChoiceData}
use Rattle.pmb_fact_stream.specs.Others.{is_told}
use Rattle.pmb_json_objects.specs.Counts.{CountsData}
use Rattle.pmb_facts.specs.Fact.{FactData}
use Rattle.pmb_fact_stream.specs.Lines.{fact_lines, last_lines}
use Rattle.pmb_fact_stream.specs.Spans.{after_spans}
use Rattle.pmb_telling.specs.Text.{BadLine, FactsFrom, GoesOn, WritesTold, bad_line_facts, behind_line}
use Rattle.pmb_telling.specs.Text.{text_facts}
use Rattle.pmb_telling.proofs.BadLines.{bad_word_of_line}
use Rattle.pmb_telling.proofs.Lines.{SplitsLine, split_line}

-- a text spells events, or one of its words is the first that is no token
abbrev pub IsRead : List ℕ → Type 0
IsRead text = ((events : List Event) × Spells text events)
    ⊎ ((events : List Event) × (place : ℕ) × FirstBadWord text events place)

module _ (choice : ChoiceData) (profile : List DeviceParts) (some_spans : (n : ℕ) (events : List Event)
    → (spans : List Span) × SpansFrom profile n events spans)
    (each_text_is_read : (text : List ℕ) → IsRead text) where
  -- bytes from there on have some facts
  abbrev HasFacts : AfterBadToken → Before → List ℕ → Type 0
  HasFacts after b bytes = (bad : List BadLine) × (facts : List FactData) × (counts : CountsData)
      × FactsFrom choice.ignored profile after b bytes bad facts counts

  -- .. and so has what stands after a bad line
  abbrev HasFactsBehind : AfterBadToken → Before → BadLine → List ℕ → Type 0
  HasFactsBehind after b bad rest =
      (more : List BadLine) × (others : List FactData) × (counts : CountsData)
      × GoesOn after rest
      (λ behind. FactsFrom choice.ignored profile after (behind_line choice.ignored profile b bad) behind more others counts)
      ((more ≡ []) × (others ≡ []) × (counts ≡ (behind_line choice.ignored profile b bad).counts))

  facts_behind : (after : AfterBadToken) (b : Before) (bad : BadLine) (rest : List ℕ)
      → ((bytes : List ℕ) → length bytes < length rest → HasFacts Continue (behind_line choice.ignored profile b bad) bytes)
      → HasFactsBehind after b bad rest
  facts_behind End b bad rest later = ([], [], (behind_line choice.ignored profile b bad).counts, (refl, refl, refl))
  facts_behind Continue b bad [] later = ([], [], (behind_line choice.ignored profile b bad).counts, (refl, refl, refl))
  facts_behind Continue b bad (lf ∷ bytes) later = later bytes (omega arith)

  -- bytes that spell events
  all_read : (after : AfterBadToken) (b : Before) (bytes : List ℕ) (events : List Event) → Spells bytes events
      → HasFacts after b bytes
  all_read after b bytes events spells =
      let read = some_spans b.n events in (
        [],
        text_facts choice.ignored b bytes (lost_in profile b.n events) b.past read.0,
        after_spans choice.ignored b.counts read.0,
        record { events = events; spans = read.0; spells = spells; reads = read.1; all = refl; behind = refl },
      )

  -- bytes with a bad word
  up_to_bad_word : (after : AfterBadToken) (b : Before) (bytes : List ℕ) (events : List Event) (place : ℕ)
      → FirstBadWord bytes events place
      → ((there : Before) (behind : List ℕ) → length behind < length bytes → HasFacts Continue there behind)
      → HasFacts after b bytes
  up_to_bad_word after b bytes events place word later =
      -- the line of the bad word, and the spans of the events before it
      let here : SplitsLine word.rest = split_line word.rest in
      let read = some_spans b.n events in
      let bad : BadLine = record {
        front = word.front;
        events = events;
        spans = filter (is_told choice.ignored) read.0;
        line =
            here.line;
      } in
      -- the bytes are cut there, and what is left is shorter
      let split : bytes ≡ word.front ++ here.line ++ here.rest =
      word.split ∙ ap (λ (l : List ℕ). word.front ++ l) here.split
      ∙ sym (append_assoc word.front here.line here.rest) in
      let long : length here.rest ≤ length bytes =
      omega (arith, ap length split, length-append (word.front ++ here.line) here.rest) in
      -- so it has facts, which come after those of the line
      let behind = facts_behind after b bad here.rest
      (λ rest short. later (behind_line choice.ignored profile b bad) rest (omega (arith, short, long))) in (
        bad ∷ behind.0,
        bad_line_facts choice.ignored profile b bad ++ behind.1,
        behind.2,
        (
          here.rest,
          behind.1,
          split,
          here.behind,
          record {
            word = bad_word_of_line bytes events place word here;
            in_line = here.in_line;
            all = read.0;
            reads = read.1;
            reported = refl;
          },
          refl,
          behind.3,
        ),
      )

  some_facts : (most : ℕ) (after : AfterBadToken) (b : Before) (bytes : List ℕ) → length bytes < most
      → HasFacts after b bytes
  some_facts zero after b bytes short = absurd (omega arith)
  some_facts (suc most) after b bytes short =
      elim (each_text_is_read bytes) [
        | inl all ↦ all_read after b bytes all.0 all.1
        | inr bad ↦ up_to_bad_word after b bytes bad.0 bad.1 bad.2
            (λ there behind less. some_facts most Continue there behind (omega (arith, less, short)))
      ]

  pub some_text : (after : AfterBadToken) (bytes : List ℕ) → (text : List ℕ) × (tally : Tally)
      × WritesTold choice profile after bytes text tally
  some_text after bytes =
      let all = some_facts (length bytes + 1) after at_first bytes (omega arith) in
      let tally : Tally = record {
        packets = capped all.2.packets;
        refusals =
            capped (all.2.refusals + all.2.bad_tokens);
      } in (
        fact_lines choice profile all.1 ++ last_lines choice profile all.2,
        tally,
        record {
          bad = all.0;
          facts = all.1;
          counts = all.2;
          from_first = all.3;
          lines = refl;
          tallied = record { packets_counted = refl; refusals_counted = refl };
        },
      )
