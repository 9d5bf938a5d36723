-- What follows after bad lines: the facts of bytes from a later point on are those from the first byte
-- on, with those of the bad lines before them. For `take_words`, `drop_line`, `end_words` and the
-- other functions of `src/engine.rt`, which know what was written up to the last bad line
-- (`LeadsTo`). One bad line more is put after those before it.
use Rattle.std.proofs.Common.{◌≡◌, ◌⊎◌, ℕ, ◌+◌, inl, inr, List, [], ◌∷◌, ◌++◌, length, refl, sym, ap, subst, ◌∙◌}
use Rattle.std.proofs.Common.{append_assoc, append-nil}
use Rattle.pmb_bus.specs.Text.{FirstBadWord}
use Rattle.pmb_command.specs.Parts.{DeviceParts}
use Rattle.pmb_io.specs.Lines.{HasNoLf}
use Rattle.pmb_io.specs.Tally.{IsTallyOf}
use Rattle.pmb_io.specs.declared.tally.Tally.{Tally}
use Rattle.pmb_scan.specs.declared.after_bad_token.AfterBadToken.{AfterBadToken}
use Rattle.pmb_scan.specs.declared.after_bad_token.AfterBadToken.TheVariants.{End, Continue}
use Rattle.pmb_telling.specs.SoFar.{HasTold, IsOutOf, SoFarFrom, StaysBad}
use Rattle.pmb_keeper.specs.Setting.{Setting}
use Rattle.pmb_telling.specs.Kept.{WritesKept}
use Rattle.pmb_telling.specs.Text.{BadLine, FactsFrom, GoesOn, IsBadLine, IsBehindLine, WritesTold, bad_line_facts}
use Rattle.pmb_telling.specs.Text.{behind_line}
use Rattle.pmb_telling.specs.machine.Standing.{Behind, IsBadSoFar, LeadsTo, longer_line}
use Rattle.pmb_telling.proofs.Lines.{bad_in_line}
use Rattle.pmb_telling.proofs.Facts.{lines_append}
use Rattle.pmb_telling.proofs.Words.{no_lf_append}
use Rattle.pmb_json_objects.specs.Counts.{CountsData}
use Rattle.pmb_facts.specs.Fact.{FactData}
use Rattle.pmb_fact_stream.specs.Lines.{fact_lines, last_lines}
use Rattle.pmb_fact_stream.specs.Before.{Before, at_first}
use Rattle.pmb_fact_stream.specs.Choice.{ChoiceData}

-- what holds where reading goes no further
pub goes_nowhere : (after : AfterBadToken) (rest : List ℕ) (Holds : List ℕ → Type 0) (Else : Type 0)
    → (after ≡ End) ⊎ (rest ≡ []) → Else → GoesOn after rest Holds Else
goes_nowhere End rest Holds Else nowhere holds = holds
goes_nowhere Continue [] Holds Else nowhere holds = holds
goes_nowhere Continue (b ∷ rest) Holds Else (inl is) holds = absurd (cc is)
goes_nowhere Continue (b ∷ rest) Holds Else (inr is) holds = absurd (cc is)

module _ (choice : ChoiceData) (profile : List DeviceParts) where
  -- a bad line so far is one where its line ends, or nothing follows
  pub bad_line_is : (b : Before) (bad : BadLine) (at_hand more line rest : List ℕ)
      → IsBadSoFar choice profile b bad at_hand → at_hand ++ more ≡ line ++ rest
      → HasNoLf bad.line → HasNoLf line → IsBehindLine rest → IsBadLine choice.ignored profile b (longer_line bad line)
  bad_line_is b bad at_hand more line rest so_far split first second behind =
      let whole : bad.line ++ (at_hand ++ more) ≡ (bad.line ++ line) ++ rest = ap (λ (l : List ℕ). bad.line ++ l) split
      ∙ sym (append_assoc bad.line line rest) in record {
        word = bad_in_line bad.front (bad.line ++ line) rest bad.events behind
            (subst (λ (l : List ℕ). FirstBadWord (bad.front ++ l) bad.events (length bad.front)) whole
            (so_far.word more));
        in_line = no_lf_append bad.line line first second;
        all = so_far.all;
        reads = so_far.reads;
        reported = so_far.reported;
      }

  -- at first nothing came before
  pub leads_first : (after : AfterBadToken) → LeadsTo choice profile after at_first [] []
  leads_first after = record { whole = λ rest more others counts from. from; so_far = λ rest more others from. from }

  -- a bad line more, and its LF
  leads_on : (b : Before) (bads : List BadLine) (facts : List FactData) (bad : BadLine)
      → LeadsTo choice profile Continue b bads facts → IsBadLine choice.ignored profile b bad
      → LeadsTo choice profile Continue (behind_line choice.ignored profile b bad) (bads ++ bad ∷ [])
      (facts ++ bad_line_facts choice.ignored profile b bad)
  leads_on b bads facts bad leads is_bad =
      let own = bad_line_facts choice.ignored profile b bad in
      -- the bytes before the line, the line, its LF and the rest, in one row
      let bytes_are : (rest : List ℕ) → b.read ++ ((bad.front ++ bad.line) ++ (10 ∷ rest))
      ≡ (behind_line choice.ignored profile b bad).read
      ++ rest =
      λ rest. sym (append_assoc b.read (bad.front ++ bad.line) (10 ∷ rest))
      ∙ (ap (λ (l : List ℕ). l ++ (10 ∷ rest)) (sym (append_assoc b.read bad.front bad.line))
      ∙ sym (append_assoc ((b.read ++ bad.front) ++ bad.line) (10 ∷ []) rest)) in record {
        -- all of it, and what is written so far: the line is put after the others, and so are its
        -- facts
        whole = λ rest more others counts from.
            subst (λ (bytes : List ℕ). FactsFrom choice.ignored profile Continue at_first bytes
            ((bads ++ bad ∷ []) ++ more)
            ((facts ++ own) ++ others) counts) (bytes_are rest)
            (subst (λ (all : List BadLine). FactsFrom choice.ignored profile Continue at_first
            (b.read ++ ((bad.front ++ bad.line) ++ (10 ∷ rest))) all ((facts ++ own) ++ others) counts)
            (sym (append_assoc bads (bad ∷ []) more))
            (subst (λ (all : List FactData). FactsFrom choice.ignored profile Continue at_first
            (b.read ++ ((bad.front ++ bad.line) ++ (10 ∷ rest))) (bads ++ (bad ∷ more)) all counts)
            (sym (append_assoc facts own others))
            (leads.whole ((bad.front ++ bad.line) ++ (10 ∷ rest)) (bad ∷ more) (own ++ others) counts
            (10 ∷ rest, others, refl, refl, is_bad, refl, from))));
        so_far = λ rest more others from.
            subst (λ (bytes : List ℕ). SoFarFrom choice.ignored profile Continue at_first bytes
            ((bads ++ bad ∷ []) ++ more)
            ((facts ++ own) ++ others)) (bytes_are rest)
            (subst (λ (all : List BadLine). SoFarFrom choice.ignored profile Continue at_first
            (b.read ++ ((bad.front ++ bad.line) ++ (10 ∷ rest))) all ((facts ++ own) ++ others))
            (sym (append_assoc bads (bad ∷ []) more))
            (subst (λ (all : List FactData). SoFarFrom choice.ignored profile Continue at_first
            (b.read ++ ((bad.front ++ bad.line) ++ (10 ∷ rest))) (bads ++ (bad ∷ more)) all)
            (sym (append_assoc facts own others))
            (leads.so_far ((bad.front ++ bad.line) ++ (10 ∷ rest)) (bad ∷ more) (own ++ others)
            (10 ∷ rest, refl, refl, is_bad, λ none. absurd (cc none), (others, refl, from)))));
      }

  pub leads_line : (after : AfterBadToken) (b : Before) (bads : List BadLine) (facts : List FactData) (bad : BadLine)
      → after ≡ Continue → LeadsTo choice profile after b bads facts
      → IsBadLine choice.ignored profile b bad
      → LeadsTo choice profile after (behind_line choice.ignored profile b bad) (bads ++ bad ∷ [])
      (facts ++ bad_line_facts choice.ignored profile b bad)
  leads_line after b bads facts bad goes leads is_bad =
      subst (λ (a : AfterBadToken). LeadsTo choice profile a (behind_line choice.ignored profile b bad) (bads ++ bad ∷ [])
      (facts ++ bad_line_facts choice.ignored profile b bad)) (sym goes)
      (leads_on b bads facts bad (subst (λ (a : AfterBadToken). LeadsTo choice profile a b bads facts) goes leads)
      is_bad)

  -- ---- all of it

  -- the last bad line
  last_line : (after : AfterBadToken) (b : Before) (bad : BadLine) (rest : List ℕ)
      → IsBadLine choice.ignored profile b bad
      → IsBehindLine rest → (after ≡ End) ⊎ (rest ≡ [])
      → FactsFrom choice.ignored profile after b ((bad.front ++ bad.line) ++ rest) (bad ∷ [])
      (bad_line_facts choice.ignored profile b bad ++ []) (behind_line choice.ignored profile b bad).counts
  last_line after b bad rest is_bad behind nowhere =
      (rest, [], refl, behind, is_bad, refl, goes_nowhere after rest _ _ nowhere (refl, refl, refl))

  module _ {K : Type 0} (Keeps : K → Setting → List FactData → Type 0) (after : AfterBadToken) (first : K)
      (Holds : K → Before → List ℕ → List ℕ → Type 0) (bytes text : List ℕ)
      (behind : Behind Keeps choice profile after first Holds bytes text) where
    -- what is written after there is written in all, and this holds of all facts
    pub writes_told : (All : List FactData → Type 0) (tail said : List ℕ) (more : List BadLine)
        (others : List FactData) (counts : CountsData)
        (tally : Tally)
        → FactsFrom choice.ignored profile after behind.b (behind.used ++ tail) more others counts
        → behind.put ++ said ≡ fact_lines choice profile others ++ last_lines choice profile counts
        → IsTallyOf counts.packets (counts.refusals + counts.bad_tokens) tally → All (behind.facts ++ others)
        → WritesKept All choice profile after (bytes ++ tail) (text ++ said) tally
    writes_told All tail said more others counts tally from said_are tallied kept =
        let lines = fact_lines choice profile in
        let last = last_lines choice profile counts in
        let writes : WritesTold choice profile after (bytes ++ tail) (text ++ said) tally = record {
          bad = behind.bads ++ more;
          facts = behind.facts ++ others;
          counts = counts;
          from_first = subst (λ (l : List ℕ). FactsFrom choice.ignored profile after at_first l (behind.bads ++ more)
              (behind.facts ++ others) counts)
              (sym (ap (λ (l : List ℕ). l ++ tail) behind.bytes_are ∙ append_assoc behind.b.read behind.used tail))
              (behind.leads.whole (behind.used ++ tail) more others counts from);
          lines = ap (λ (l : List ℕ). l ++ said) behind.text_is
              ∙ (append_assoc (lines behind.facts) behind.put said
              ∙ (ap (λ (l : List ℕ). lines behind.facts ++ l) said_are
              ∙ (sym (append_assoc (lines behind.facts) (lines others) last)
              ∙ ap (λ (l : List ℕ). l ++ last) (sym (lines_append choice profile behind.facts others)))));
          tallied = tallied;
        } in record { writes = writes; kept = kept }

    -- and what is written so far
    pub has_written : (more : List BadLine) (others : List FactData)
        → SoFarFrom choice.ignored profile after behind.b behind.used more others
        → behind.put ≡ fact_lines choice profile others → HasTold choice profile after bytes text
    has_written more others from put_are = record {
      bad = behind.bads ++ more;
      facts = behind.facts ++ others;
      from_first = subst (λ (l : List ℕ). SoFarFrom choice.ignored profile after at_first l (behind.bads ++ more)
          (behind.facts ++ others)) (sym behind.bytes_are)
          (behind.leads.so_far behind.used more others from);
      lines = behind.text_is ∙ (ap (λ (l : List ℕ). fact_lines choice profile behind.facts ++ l) put_are
          ∙ sym (lines_append choice profile behind.facts others));
    }

    -- the last bad line ends all
    pub writes_bad_line : (All : List FactData → Type 0) (tail said : List ℕ) (bad : BadLine) (rest : List ℕ)
        (tally : Tally)
        → behind.used ++ tail ≡ bad.front ++ (bad.line ++ rest) → IsBadLine choice.ignored profile behind.b bad
        → IsBehindLine rest → (after ≡ End) ⊎ (rest ≡ [])
        → behind.put ++ said ≡ fact_lines choice profile (bad_line_facts choice.ignored profile behind.b bad)
        ++ last_lines choice profile (behind_line choice.ignored profile behind.b bad).counts
        → IsTallyOf (behind_line choice.ignored profile behind.b bad).counts.packets
        ((behind_line choice.ignored profile behind.b bad).counts.refusals
        + (behind_line choice.ignored profile behind.b bad).counts.bad_tokens) tally
        → All (behind.facts ++ bad_line_facts choice.ignored profile behind.b bad)
        → WritesKept All choice profile after (bytes ++ tail) (text ++ said) tally
    writes_bad_line All tail said bad rest tally bytes_are is_bad is_behind nowhere said_are tallied kept =
        let own = bad_line_facts choice.ignored profile behind.b bad in
        let counts = (behind_line choice.ignored profile behind.b bad).counts in
        writes_told All tail said (bad ∷ []) (own ++ []) counts tally
        (subst (λ (l : List ℕ). FactsFrom choice.ignored profile after behind.b l (bad ∷ []) (own ++ []) counts)
        (append_assoc bad.front bad.line rest ∙ sym bytes_are)
        (last_line after behind.b bad rest is_bad is_behind nowhere))
        (said_are ∙ ap (λ (l : List FactData). fact_lines choice profile l ++ last_lines choice profile counts)
        (sym (append-nil own))) tallied
        (subst (λ (l : List FactData). All (behind.facts ++ l)) (sym (append-nil own)) kept)

    -- so far a bad line, whose fact is out or not
    pub has_bad_line : (bad : BadLine) (facts : List FactData) → behind.used ≡ bad.front ++ bad.line
        → IsBadLine choice.ignored profile behind.b bad → StaysBad bad [] → IsOutOf choice.ignored profile behind.b bad [] facts
        → behind.put ≡ fact_lines choice profile facts → HasTold choice profile after bytes text
    has_bad_line bad facts used_are is_bad stays out put_are =
        has_written (bad ∷ []) facts (
          [],
          used_are ∙ sym (append-nil (bad.front ++ bad.line)),
          tt,
          is_bad,
          stays,
          goes_nowhere after [] _ _ (inr refl) (refl, out),
        ) put_are
