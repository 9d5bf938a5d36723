-- Where a `Times` stands after a byte that no comment comes before, by the state before it: for
-- `Times::take_front`. LF and `#` are told apart first, then separators and bytes of words.
use Rattle.std.proofs.Common.{◌≡◌, ℕ, Bool, false, inl, inr, cond, Option, None, List, [], ◌∷◌, ◌++◌, refl, subst}
use Rattle.std.proofs.Common.{sym, ap, ◌∙◌}
use Rattle.std.specs.Option.{option_or}
use Rattle.std.proofs.lemmas.Bool.{cases_Bool, cases_eq, false≢true, ne_eqb}
use Rattle.std.proofs.lemmas.List.{append-nil}
use Rattle.pmb_bus.specs.Text.{is_separator}
use Rattle.pmb_bus.proofs.Words.{in_comment_from_out}
use Rattle.pmb_times.specs.declared.times.LineState.{LineState}
use Rattle.pmb_times.specs.declared.times.LineState.TheVariants.{Empty, Kept, Between, Word, Comment}
use Rattle.pmb_times.specs.Line.{line_time}
use Rattle.pmb_times.specs.Text.{line_behind}
use Rattle.pmb_times.specs.machine.Standing.{FieldsStandAt, NoTime, gap_behind, is_comment, kept_time, outside_of}
use Rattle.pmb_times.specs.machine.Standing.{state_behind, word_behind}
use Rattle.pmb_times.proofs.Bytes.{InWord, comment_begins, kept_begins, no_time_longer, no_time_other}
use Rattle.pmb_times.proofs.Bytes.{separated, stands_first, stands_line_feed, stands_longer, stands_next}

-- ---- each byte of a line that is not kept yet, or not at all

-- what the fields are after a byte, by the state before it and after it
abbrev Changed : LineState → LineState → List ℕ → List ℕ → List ℕ → List ℕ → Type 0
Changed before after line gap word text =
    FieldsStandAt after line (gap_behind before after gap) (word_behind before after gap word) text

-- a LF ends a line that tells no time
unkept_line_feed : (s : LineState) (line line' gap word text : List ℕ) → FieldsStandAt s line gap word text
    → line_time (line_behind text) ≡ None
    → FieldsStandAt Empty line' gap word (text ++ 10 ∷ [])
unkept_line_feed s line line' gap word text stands none =
    stands_line_feed s line line' gap gap word text stands
    (sym (ap (λ (time : Option (List ℕ)). option_or time (kept_time gap)) none))

tells_none : (line : List ℕ) → NoTime line → line_time line ≡ None
tells_none line none = ap line_time (sym (append-nil line)) ∙ none []

-- what a byte stands in that is neither LF nor `#`, outside comments
to_state : (b : ℕ) → (b ≡ 10 → ⊥) → (b ≡ 35 → ⊥) → outside_of b ≡ cond (is_separator b) Between Word
to_state b no_feed no_mark = rw (ne_eqb b 10 no_feed, ne_eqb b 35 no_mark) refl

in_word : (b : ℕ) → (b ≡ 35 → ⊥) → is_separator b ≡ false → InWord b
in_word b no_mark keeps = record { outside = (in_comment_from_out b).1 no_mark; keeps = keeps }

module _ (line line' gap word text : List ℕ) (b : ℕ) where
  from_empty : FieldsStandAt Empty line gap word text → (b ≡ 10 → ⊥) → (b ≡ 35 → ⊥)
      → Changed Empty (outside_of b) line' gap word (text ++ b ∷ [])
  from_empty stands no_feed no_mark =
      subst (λ (s : LineState). Changed Empty s line' gap word (text ++ b ∷ [])) (sym (to_state b no_feed no_mark))
      (elim (cases_Bool (is_separator b)) [
        | inl separates ↦
            subst (λ (v : Bool). Changed Empty (cond v Between Word) line' gap word (text ++ b ∷ [])) (sym separates)
            (separated Empty line line' gap word text b stands (no_time_other text b stands.line_is.0 no_mark)
            stands.line_is.1.1 no_feed no_mark separates)
        | inr keeps ↦
            subst (λ (v : Bool). Changed Empty (cond v Between Word) line' gap word (text ++ b ∷ [])) (sym keeps)
            (stands_first line line' gap word text b stands (in_word b no_mark keeps))
      ])

  from_between : FieldsStandAt Between line gap word text → (b ≡ 10 → ⊥) → (b ≡ 35 → ⊥)
      → Changed Between (outside_of b) line' gap word (text ++ b ∷ [])
  from_between stands no_feed no_mark =
      subst (λ (s : LineState). Changed Between s line' gap word (text ++ b ∷ [])) (sym (to_state b no_feed no_mark))
      (elim (cases_Bool (is_separator b)) [
        | inl separates ↦
            subst (λ (v : Bool). Changed Between (cond v Between Word) line' gap word (text ++ b ∷ [])) (sym separates)
            (separated Between line line' gap word text b stands (no_time_longer (line_behind text) b stands.line_is.0)
            stands.line_is.1.1 no_feed no_mark separates)
        | inr keeps ↦
            subst (λ (v : Bool). Changed Between (cond v Between Word) line' gap word (text ++ b ∷ [])) (sym keeps)
            (stands_next line line' gap word text b stands (in_word b no_mark keeps))
      ])

  from_word : FieldsStandAt Word line gap word text → (b ≡ 10 → ⊥) → (b ≡ 35 → ⊥)
      → Changed Word (outside_of b) line' gap word (text ++ b ∷ [])
  from_word stands no_feed no_mark =
      subst (λ (s : LineState). Changed Word s line' gap word (text ++ b ∷ [])) (sym (to_state b no_feed no_mark))
      (elim (cases_Bool (is_separator b)) [
        | inl separates ↦
            subst (λ (v : Bool). Changed Word (cond v Between Word) line' gap word (text ++ b ∷ [])) (sym separates)
            (separated Word line line' gap word text b stands (no_time_longer (line_behind text) b stands.line_is.0)
            stands.line_is.1.1 no_feed no_mark separates)
        | inr keeps ↦
            subst (λ (v : Bool). Changed Word (cond v Between Word) line' gap word (text ++ b ∷ [])) (sym keeps)
            (stands_longer line line' gap word text b stands (in_word b no_mark keeps))
      ])

-- a LF
other_line_feed : (s : LineState) (line line' gap word text : List ℕ) → is_comment s ≡ false
    → FieldsStandAt s line gap word text
    → Changed s (state_behind s 10) line' gap word (text ++ 10 ∷ [])
other_line_feed Empty line line' gap word text out stands =
    unkept_line_feed Empty line line' gap word text stands (ap line_time stands.line_is.0)
other_line_feed Kept line line' gap word text out stands = absurd (false≢true (sym out))
other_line_feed Between line line' gap word text out stands =
    unkept_line_feed Between line line' gap word text stands (tells_none (line_behind text) stands.line_is.0)
other_line_feed Word line line' gap word text out stands =
    unkept_line_feed Word line line' gap word text stands (tells_none (line_behind text) stands.line_is.0)
other_line_feed Comment line line' gap word text out stands = absurd (false≢true (sym out))

-- a `#`
other_mark : (s : LineState) (line line' gap word text : List ℕ) → is_comment s ≡ false
    → (state_behind s 35 ≡ Kept → line' ≡ 35 ∷ []) → FieldsStandAt s line gap word text
    → Changed s (state_behind s 35) line' gap word (text ++ 35 ∷ [])
other_mark Empty line line' gap word text out first stands =
    subst (λ (l : List ℕ). FieldsStandAt Kept l gap word (text ++ 35 ∷ [])) (sym (first refl))
    (kept_begins line gap word text stands)
other_mark Kept line line' gap word text out first stands = absurd (false≢true (sym out))
other_mark Between line line' gap word text out first stands =
    comment_begins Between line line' gap word text stands stands.line_is.0 stands.line_is.1.1
other_mark Word line line' gap word text out first stands =
    comment_begins Word line line' gap word text stands stands.line_is.0 stands.line_is.1.1
other_mark Comment line line' gap word text out first stands = absurd (false≢true (sym out))

-- any other byte
other_byte : (s : LineState) (line line' gap word text : List ℕ) (b : ℕ) → is_comment s ≡ false → (b ≡ 10 → ⊥)
    → (b ≡ 35 → ⊥) → FieldsStandAt s line gap word text
    → Changed s (state_behind s b) line' gap word (text ++ b ∷ [])
other_byte Empty line line' gap word text b out no_feed no_mark stands =
    subst (λ (s : LineState). Changed Empty s line' gap word (text ++ b ∷ []))
    (sym (ap (λ (v : Bool). cond v Kept (outside_of b)) (ne_eqb b 35 no_mark)))
    (from_empty line line' gap word text b stands no_feed no_mark)
other_byte Kept line line' gap word text b out no_feed no_mark stands = absurd (false≢true (sym out))
other_byte Between line line' gap word text b out no_feed no_mark stands =
    from_between line line' gap word text b stands no_feed no_mark
other_byte Word line line' gap word text b out no_feed no_mark stands =
    from_word line line' gap word text b stands no_feed no_mark
other_byte Comment line line' gap word text b out no_feed no_mark stands = absurd (false≢true (sym out))

other_stands : (s : LineState) (line line' gap word text : List ℕ) (b : ℕ) → is_comment s ≡ false
    → (state_behind s b ≡ Kept → line' ≡ b ∷ []) → FieldsStandAt s line gap word text
    → Changed s (state_behind s b) line' gap word (text ++ b ∷ [])
other_stands s line line' gap word text b out first stands =
    elim (cases_eq b 10) [
      | inl feed ↦
          subst (λ (c : ℕ). Changed s (state_behind s c) line' gap word (text ++ c ∷ [])) (sym feed)
          (other_line_feed s line line' gap word text out stands)
      | inr no_feed ↦
          elim (cases_eq b 35) [
            | inl mark ↦
                subst (λ (c : ℕ). Changed s (state_behind s c) line' gap word (text ++ c ∷ [])) (sym mark)
                (other_mark s line line' gap word text out
                (subst (λ (c : ℕ). state_behind s c ≡ Kept → line' ≡ c ∷ []) mark first) stands)
            | inr no_mark ↦ other_byte s line line' gap word text b out no_feed no_mark stands
          ]
    ]

-- what is kept after it, by the fields one by one
pub stands_other : (s now : LineState) (line line' gap gap' word word' text : List ℕ) (b : ℕ) → is_comment s ≡ false
    → now ≡ state_behind s b → gap' ≡ gap_behind s now gap → word' ≡ word_behind s now gap word
    → (now ≡ Kept → line' ≡ b ∷ []) → FieldsStandAt s line gap word text
    → FieldsStandAt now line' gap' word' (text ++ b ∷ [])
stands_other s now line line' gap gap' word word' text b out is gap_is word_is line_is stands =
    let after = text ++ b ∷ [] in
    subst (λ (g : List ℕ). FieldsStandAt now line' g word' after) (sym gap_is)
    (subst (λ (w : List ℕ). FieldsStandAt now line' (gap_behind s now gap) w after) (sym word_is)
    (subst (λ (t : LineState). Changed s t line' gap word after) (sym is)
    (other_stands s line line' gap word text b out (λ kept. line_is (is ∙ kept)) stands)))

-- ---- the end of a comment

-- a LF ends a comment whose line is kept,
pub stands_line_end : (line line' gap gap' word text : List ℕ) → FieldsStandAt Kept line gap word text
    → kept_time gap' ≡ option_or (line_time line) (kept_time gap)
    → FieldsStandAt Empty line' gap' word (text ++ 10 ∷ [])
stands_line_end line line' gap gap' word text stands told =
    stands_line_feed Kept line line' gap gap' word text stands
    (told ∙ ap (λ (l : List ℕ). option_or (line_time l) (kept_time gap)) (sym stands.line_is.0))

-- and any other one
pub stands_comment_end : (line line' gap word text : List ℕ) → FieldsStandAt Comment line gap word text
    → FieldsStandAt Empty line' gap word (text ++ 10 ∷ [])
stands_comment_end line line' gap word text stands =
    unkept_line_feed Comment line line' gap word text stands (tells_none (line_behind text) stands.line_is.0)
