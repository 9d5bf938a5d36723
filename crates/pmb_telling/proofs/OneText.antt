-- What is written for bytes to their end is one text and one tally. For the laws `one_list_of_facts`
-- and `one_text_is_told`. Bytes have one first bad word (BadLines), so both lists of facts
-- have the same first line, and the rest after it is shorter.
use Rattle.std.proofs.Common.{◌≡◌, ℕ, ◌+◌, Option, List, [], ◌∷◌, ◌++◌, filter, length, sym, ◌∙◌, ap, subst}
use Rattle.std.proofs.Common.{append_assoc}
use Rattle.pmb_bus.specs.declared.event.Event.{Event}
use Rattle.pmb_bus.specs.Text.{FirstBadWord, Spells}
use Rattle.pmb_command.specs.Parts.{DeviceParts}
use Rattle.pmb_io.specs.Tally.{IsTallyOf}
use Rattle.pmb_io.specs.declared.tally.Tally.{Tally}
use Rattle.pmb_spans.specs.Spans.{Span, SpansFrom}
use Rattle.pmb_scan.specs.declared.after_bad_token.AfterBadToken.{AfterBadToken}
use Rattle.pmb_scan.specs.declared.after_bad_token.AfterBadToken.TheVariants.{End, Continue}
use Rattle.pmb_fact_stream.specs.Lost.{lost_in}
use Rattle.pmb_fact_stream.specs.Before.{Before, at_first}
use Rattle.pmb_fact_stream.specs.Choice.{ChoiceData}
use Rattle.pmb_fact_stream.specs.Others.{is_told}
use Rattle.pmb_json_objects.specs.Counts.{CountsData}
use Rattle.pmb_facts.specs.Fact.{FactData}
use Rattle.pmb_fact_stream.specs.Lines.{fact_lines, last_lines}
use Rattle.pmb_fact_stream.specs.Spans.{after_spans}
use Rattle.pmb_telling.specs.Text.{BadLine, FactsFrom, GoesOn, IsBadLine, IsBehindLine, ReadsToEnd, WritesTold}
use Rattle.pmb_telling.specs.Text.{bad_line_facts, behind_line, text_facts}
use Rattle.pmb_telling.proofs.BadLines.{bad_word_in_text, one_line}
use Rattle.pmb_telling.proofs.Lines.{same_split}

-- tallies of the same counts are one
tally_same : (s t : Tally) (packets refusals : ℕ) → IsTallyOf packets refusals s → IsTallyOf packets refusals t → s ≡ t
tally_same s t packets refusals first second =
    ap (λ (n : ℕ). record s { packets = n }) (first.packets_counted ∙ sym second.packets_counted)
    ∙ ap (λ (n : ℕ). record t { refusals = n }) (first.refusals_counted ∙ sym second.refusals_counted)

-- bad lines of the same parts are one
line_same : (x y : BadLine) → x.front ≡ y.front → x.events ≡ y.events → x.spans ≡ y.spans → x.line ≡ y.line → x ≡ y
line_same x y front events spans line =
    ap (λ (l : List ℕ). record x { front = l }) front
    ∙ ap (λ (l : List Event). record x { front = y.front; events = l }) events
    ∙ ap (λ (l : List Span). record y { spans = l; line = x.line }) spans
    ∙ ap (λ (l : List ℕ). record y { line = l }) line

module _ (ignored : Option (List ℕ)) (profile : List DeviceParts)
    (one_list_of_spans : (n : ℕ) (events : List Event) (a b : List Span) → SpansFrom profile n events a
    → SpansFrom profile n events b → a ≡ b)
    (one_spelling : (text : List ℕ) (a b : List Event) → Spells text a → Spells text b → a ≡ b)
    (one_bad_word : (text : List ℕ) (a b : List Event) (i j : ℕ) → FirstBadWord text a i → FirstBadWord text b j
    → (a ≡ b) × (i ≡ j))
    (no_bad : (text : List ℕ) (a b : List Event) (i : ℕ) → Spells text a → FirstBadWord text b i → ⊥) where
  -- the facts of the same events, and what was counted after them
  one_reading : (b : Before) (bytes : List ℕ) (facts others : List FactData) (c d : CountsData)
      → ReadsToEnd ignored profile b bytes facts c
      → ReadsToEnd ignored profile b bytes others d → (facts ≡ others) × (c ≡ d)
  one_reading b bytes facts others c d x y =
      let events = one_spelling bytes x.events y.events x.spells y.spells in
      let spans = one_list_of_spans b.n y.events x.spans y.spans
      (subst (λ (es : List Event). SpansFrom profile b.n es x.spans) events x.reads) y.reads in (
        x.all ∙ ap (text_facts ignored b bytes (lost_in profile b.n x.events) b.past) spans
            ∙ ap (λ (es : List Event). text_facts ignored b bytes (lost_in profile b.n es) b.past y.spans) events
            ∙ sym y.all,
        x.behind
            ∙ ap (after_spans ignored b.counts) spans ∙ sym y.behind,
      )

  -- the first bad word of bytes that begin with a bad line
  pub bad_word_there : (b : Before) (bytes : List ℕ) (x : BadLine) (rest : List ℕ) → bytes ≡ x.front ++ x.line ++ rest
      → IsBehindLine rest → IsBadLine ignored profile b x
      → FirstBadWord bytes x.events (length x.front)
  bad_word_there b bytes x rest split behind bad =
      subst (λ (text : List ℕ). FirstBadWord text x.events (length x.front)) (sym split)
      (bad_word_in_text x.front x.line rest x.events behind bad.word)

  -- bytes have one first bad line, and one rest after it
  pub one_bad_line : (b : Before) (bytes : List ℕ) (x y : BadLine) (rest other : List ℕ)
      → bytes ≡ x.front ++ x.line ++ rest → bytes ≡ y.front ++ y.line ++ other
      → IsBehindLine rest → IsBehindLine other → IsBadLine ignored profile b x → IsBadLine ignored profile b y
      → (x ≡ y) × (rest ≡ other)
  one_bad_line b bytes x y rest other first second behind also bad too =
      let words = one_bad_word bytes x.events y.events (length x.front) (length y.front)
      (bad_word_there b bytes x rest first behind bad)
      (bad_word_there b bytes y other second also too) in
      let parts = same_split x.front y.front (x.line ++ rest) (y.line ++ other)
      (sym (append_assoc x.front x.line rest) ∙ sym first ∙ second ∙ append_assoc y.front y.line other) words.1 in
      let lines = one_line x.line y.line rest other bad.in_line too.in_line behind also parts.1 in
      let spans = one_list_of_spans b.n y.events bad.all too.all
      (subst (λ (es : List Event). SpansFrom profile b.n es bad.all) words.0 bad.reads) too.reads in (
        line_same x y parts.0 words.0 (bad.reported ∙ ap (filter (is_told ignored)) spans ∙ sym too.reported)
            lines.0,
        lines.1,
      )

  -- what holds after a bad line
  abbrev Behind : AfterBadToken → Before → List BadLine → List FactData → CountsData → BadLine → List ℕ → Type 0
  Behind after b more others counts bad rest =
      GoesOn after rest
      (λ behind. FactsFrom ignored profile after (behind_line ignored profile b bad) behind more others counts)
      ((more ≡ []) × (others ≡ []) × (counts ≡ (behind_line ignored profile b bad).counts))

  -- the facts after the same bad line, if so after the next LF
  one_behind : (after : AfterBadToken) (b : Before) (xs ys : List BadLine) (o p : List FactData) (c d : CountsData)
      (bad : BadLine) (rest : List ℕ)
      → ((there : Before) (bytes : List ℕ) → FactsFrom ignored profile Continue there bytes xs o c
      → FactsFrom ignored profile Continue there bytes ys p d → (o ≡ p) × (c ≡ d))
      → Behind after b xs o c bad rest → Behind after b ys p d bad rest → (o ≡ p) × (c ≡ d)
  one_behind End b xs ys o p c d bad rest later x y = (x.1 ∙ sym y.1, x.2 ∙ sym y.2)
  one_behind Continue b xs ys o p c d bad [] later x y = (x.1 ∙ sym y.1, x.2 ∙ sym y.2)
  one_behind Continue b xs ys o p c d bad (lf ∷ bytes) later x y = later (behind_line ignored profile b bad) bytes x y

  -- bytes have the same facts and counts, whatever their bad lines are said to be
  pub one_list : (after : AfterBadToken) (b : Before) (bytes : List ℕ) (xs ys : List BadLine)
      (facts others : List FactData) (c d : CountsData)
      → FactsFrom ignored profile after b bytes xs facts c → FactsFrom ignored profile after b bytes ys others d
      → (facts ≡ others) × (c ≡ d)
  one_list after b bytes [] [] facts others c d x y = one_reading b bytes facts others c d x y
  one_list after b bytes [] (bad ∷ ys) facts others c d x y =
      absurd (no_bad bytes x.events bad.events (length bad.front) x.spells (bad_word_there b bytes bad y.0 y.2 y.3 y.4))
  one_list after b bytes (bad ∷ xs) [] facts others c d x y =
      absurd (no_bad bytes y.events bad.events (length bad.front) y.spells (bad_word_there b bytes bad x.0 x.2 x.3 x.4))
  one_list after b bytes (bad ∷ xs) (other ∷ ys) facts others c d x y =
      let same = one_bad_line b bytes bad other x.0 y.0 x.2 y.2 x.3 y.3 x.4 y.4 in
      let there = subst (λ (rest : List ℕ). Behind after b ys y.1 d bad rest) (sym same.1)
      (subst (λ (line : BadLine). Behind after b ys y.1 d line y.0) (sym same.0) y.6) in
      let both = one_behind after b xs ys x.1 y.1 c d bad x.0
      (λ next behind p q. one_list Continue next behind xs ys x.1 y.1 c d p q) x.6 there in (
        x.5 ∙ ap (λ (os : List FactData). bad_line_facts ignored profile b bad ++ os) both.0
            ∙ ap (λ (line : BadLine). bad_line_facts ignored profile b line ++ y.1) same.0 ∙ sym y.5,
        both.1,
      )

pub one_text : (choice : ChoiceData) (profile : List DeviceParts) (after : AfterBadToken) (bytes a b : List ℕ)
    (s t : Tally)
    → ((bad lines : List BadLine) (facts others : List FactData) (c d : CountsData)
    → FactsFrom choice.ignored profile after at_first bytes bad facts c
    → FactsFrom choice.ignored profile after at_first bytes lines others d → (facts ≡ others) × (c ≡ d))
    → WritesTold choice profile after bytes a s → WritesTold choice profile after bytes b t → (a ≡ b) × (s ≡ t)
one_text choice profile after bytes a b s t one x y =
    let same = one x.bad y.bad x.facts y.facts x.counts y.counts x.from_first y.from_first in
    let lines = fact_lines choice profile in
    let last = last_lines choice profile in (
      x.lines ∙ ap (λ (facts : List FactData). lines facts ++ last x.counts) same.0
          ∙ ap (λ (c : CountsData). lines y.facts ++ last c) same.1 ∙ sym y.lines,
      tally_same s t x.counts.packets (x.counts.refusals + x.counts.bad_tokens) x.tallied
          (subst (λ (c : CountsData). IsTallyOf c.packets (c.refusals + c.bad_tokens) t) (sym same.1) y.tallied),
    )
