-- What is written so far for some bytes is one text. For the law `one_text_is_told_so_far`. Two lists
-- of facts for the same bytes have the same first bad line (OneText), or none; a bad word stays the
-- first of its text whatever follows, so what is written for such a text isn't that of words under
-- way.
use Rattle.std.proofs.Common.{◌≡◌, ℕ, Some, inl, inr, List, [], ◌∷◌, ◌++◌, filter, length, map, refl, sym, ◌∙◌, ap}
use Rattle.std.proofs.Common.{subst, append_assoc, append-nil}
use Rattle.pmb_bus.specs.declared.event.Event.{Event}
use Rattle.pmb_bus.specs.Text.{BeginsText, EndedWordsSpell, FirstBadWord, Spells}
use Rattle.pmb_command.specs.Parts.{DeviceParts}
use Rattle.pmb_spans.specs.Spans.{Span, SpansFrom}
use Rattle.pmb_scan.specs.declared.after_bad_token.AfterBadToken.{AfterBadToken}
use Rattle.pmb_scan.specs.declared.after_bad_token.AfterBadToken.TheVariants.{End, Continue}
use Rattle.pmb_fact_stream.specs.Lost.{lost_in}
use Rattle.pmb_fact_stream.specs.Before.{Before, at_first}
use Rattle.pmb_fact_stream.specs.Choice.{ChoiceData}
use Rattle.pmb_fact_stream.specs.Others.{is_told}
use Rattle.pmb_facts.specs.Fact.{FactData}
use Rattle.pmb_fact_stream.specs.Lines.{fact_lines}
use Rattle.pmb_telling.specs.SoFar.{HasTold, IsOutOf, ReadsSoFar, SoFarFrom, StaysBad}
use Rattle.pmb_telling.specs.Text.{BadLine, GoesOn, IsBehindLine, bad_line_facts, behind_line, text_facts}
use Rattle.pmb_telling.proofs.BadLines.{bad_word_in_text}
use Rattle.pmb_telling.proofs.OneText.{one_bad_line}

-- ---- words that have ended

under_some : (a b : List Event) → map Some a ≡ map Some b → a ≡ b
under_some [] [] is = refl
under_some [] (y ∷ b) is = absurd (cc is)
under_some (x ∷ a) [] is = absurd (cc is)
under_some (x ∷ a) (y ∷ b) is =
    let heads : x ≡ y = cc is in
    let tails : map Some a ≡ map Some b = cc is in
    ap (λ (l : List Event). x ∷ l) (under_some a b tails) ∙ ap (λ (e : Event). e ∷ b) heads

one_ended : (text : List ℕ) (a b : List Event) → EndedWordsSpell text a → EndedWordsSpell text b → a ≡ b
one_ended text a b first second = under_some a b (sym first ∙ second)

module _ (choice : ChoiceData) (profile : List DeviceParts)
    (one_list_of_spans : (n : ℕ) (events : List Event) (a b : List Span) → SpansFrom profile n events a
    → SpansFrom profile n events b → a ≡ b)
    (one_spelling : (text : List ℕ) (a b : List Event) → Spells text a → Spells text b → a ≡ b)
    (one_bad_word : (text : List ℕ) (a b : List Event) (i j : ℕ) → FirstBadWord text a i → FirstBadWord text b j
    → (a ≡ b) × (i ≡ j))
    (no_bad : (text : List ℕ) (a b : List Event) (i : ℕ) → Spells text a → FirstBadWord text b i → ⊥) where
  one_reading : (b : Before) (bytes : List ℕ) (facts others : List FactData)
      → ReadsSoFar choice.ignored profile b bytes facts
      → ReadsSoFar choice.ignored profile b bytes others
      → facts ≡ others
  one_reading b bytes facts others x y =
      let events = one_ended bytes x.events y.events x.spells y.spells in
      let spans = one_list_of_spans b.n y.events x.spans y.spans
      (subst (λ (es : List Event). SpansFrom profile b.n es x.spans) events x.reads) y.reads in
      x.all ∙ ap (λ (l : List Span). text_facts choice.ignored b bytes (lost_in profile b.n x.events) b.past
      (filter (is_told choice.ignored) l)) spans
      ∙ ap (λ (es : List Event). text_facts choice.ignored b bytes (lost_in profile b.n es) b.past
      (filter (is_told choice.ignored) y.spans)) events ∙ sym y.all

  -- a bad line is the first of its text whatever follows
  stays_first : (bad : BadLine) (rest more : List ℕ) → IsBehindLine rest → StaysBad bad rest
      → FirstBadWord (bad.front ++ bad.line) bad.events (length bad.front)
      → FirstBadWord ((bad.front ++ bad.line ++ rest) ++ more) bad.events (length bad.front)
  stays_first bad [] more behind stays word =
      subst (λ (text : List ℕ). FirstBadWord text bad.events (length bad.front))
      (sym (append_assoc bad.front bad.line more)
      ∙ ap (λ (l : List ℕ). l ++ more) (sym (append-nil (bad.front ++ bad.line)))) (stays refl more)
  stays_first bad (lf ∷ rest) more behind stays word =
      subst (λ (text : List ℕ). FirstBadWord text bad.events (length bad.front))
      (sym (append_assoc (bad.front ++ bad.line) (lf ∷ rest) more))
      (bad_word_in_text bad.front bad.line (lf ∷ rest ++ more) bad.events behind word)

  -- so no text that spells events begins with it
  not_begun : (bytes : List ℕ) (bad : BadLine) (rest : List ℕ) → bytes ≡ bad.front ++ bad.line ++ rest
      → IsBehindLine rest → StaysBad bad rest
      → FirstBadWord (bad.front ++ bad.line) bad.events (length bad.front) → BeginsText bytes → ⊥
  not_begun bytes bad rest split behind stays word begins =
      no_bad (bytes ++ begins.0) begins.1 bad.events (length bad.front) begins.2
      (subst (λ (text : List ℕ). FirstBadWord (text ++ begins.0) bad.events (length bad.front)) (sym split)
      (stays_first bad rest begins.0 behind stays word))

  one_out : (b : Before) (bad : BadLine) (rest : List ℕ) (o p : List FactData) → IsOutOf choice.ignored profile b bad rest o
      → IsOutOf choice.ignored profile b bad rest p → o ≡ p
  one_out b bad rest o p (inl x) (inl y) = x.1 ∙ sym y.1
  one_out b bad rest o p (inl x) (inr y) = absurd (y.0 x.0)
  one_out b bad rest o p (inr x) (inl y) = absurd (x.0 y.0)
  one_out b bad rest o p (inr x) (inr y) = x.1 ∙ sym y.1

  -- what holds after a bad line
  abbrev Behind : AfterBadToken → Before → List BadLine → List FactData → BadLine → List ℕ → Type 0
  Behind after b more facts bad rest =
      GoesOn after rest
      (λ behind. (others : List FactData) × (facts ≡ bad_line_facts choice.ignored profile b bad ++ others)
      × SoFarFrom choice.ignored profile after (behind_line choice.ignored profile b bad) behind more others)
      ((more ≡ []) × IsOutOf choice.ignored profile b bad rest facts)

  one_behind : (after : AfterBadToken) (b : Before) (xs ys : List BadLine) (o p : List FactData) (bad : BadLine)
      (rest : List ℕ)
      → ((there : Before) (bytes : List ℕ) (q r : List FactData)
      → SoFarFrom choice.ignored profile Continue there bytes xs q
      → SoFarFrom choice.ignored profile Continue there bytes ys r → q ≡ r)
      → Behind after b xs o bad rest → Behind after b ys p bad rest → o ≡ p
  one_behind End b xs ys o p bad rest later x y = one_out b bad rest o p x.1 y.1
  one_behind Continue b xs ys o p bad [] later x y = one_out b bad [] o p x.1 y.1
  one_behind Continue b xs ys o p bad (lf ∷ bytes) later x y =
      x.1 ∙ ap (λ (os : List FactData). bad_line_facts choice.ignored profile b bad ++ os)
      (later (behind_line choice.ignored profile b bad) bytes x.0 y.0 x.2 y.2) ∙ sym y.1

  one_list : (after : AfterBadToken) (b : Before) (bytes : List ℕ) (xs ys : List BadLine) (facts others : List FactData)
      → SoFarFrom choice.ignored profile after b bytes xs facts
      → SoFarFrom choice.ignored profile after b bytes ys others
      → facts ≡ others
  one_list after b bytes [] [] facts others x y = one_reading b bytes facts others x y
  one_list after b bytes [] (bad ∷ ys) facts others x y =
      let line = y.3 in absurd (not_begun bytes bad y.0 y.1 y.2 y.4 line.word x.begins)
  one_list after b bytes (bad ∷ xs) [] facts others x y =
      let line = x.3 in absurd (not_begun bytes bad x.0 x.1 x.2 x.4 line.word y.begins)
  one_list after b bytes (bad ∷ xs) (other ∷ ys) facts others x y =
      let same = one_bad_line choice.ignored profile one_list_of_spans one_spelling one_bad_word no_bad b bytes bad
      other x.0
      y.0 x.1 y.1 x.2 y.2 x.3 y.3 in
      let there = subst (λ (rest : List ℕ). Behind after b ys others bad rest) (sym same.1)
      (subst (λ (line : BadLine). Behind after b ys others line y.0) (sym same.0) y.5) in
      one_behind after b xs ys facts others bad x.0
      (λ next behind q r u v. one_list Continue next behind xs ys q r u v)
      x.5 there

  pub one_front : (after : AfterBadToken) (bytes a b : List ℕ) → HasTold choice profile after bytes a
      → HasTold choice profile after bytes b → a ≡ b
  one_front after bytes a b x y =
      x.lines ∙ ap (fact_lines choice profile)
      (one_list after at_first bytes x.bad y.bad x.facts y.facts x.from_first y.from_first) ∙ sym y.lines
