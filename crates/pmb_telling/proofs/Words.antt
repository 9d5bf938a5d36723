-- The word at the front of a text byte by byte, bytes of one word, and lines. For `word_bytes` and
-- `line_bytes` of `src/word_end.rt`, for `TellerEngine::end`, for all files here that cut text
-- into words, and for the lines of `pmb_json`. A byte ends a word if it is a separator or begins a
-- comment; another one is its first.
use Rattle.std.proofs.Common.{◌≡◌, ◌≢◌, ℕ, ◌||◌, ◌==◌, Bool, true, false, cond, inl, inr, List, [], ◌∷◌, ◌++◌, refl}
use Rattle.std.proofs.Common.{sym, ap, subst, ◌∙◌}
use Rattle.std.specs.List.{AllByRecursion, slice_split, onto_first}
use Rattle.std.proofs.lemmas.Bool.{cases_Bool, cases_eq, ne_eqb, false≢true}
use Rattle.std.proofs.lemmas.List.Splits.{slice_split-cons_yes, slice_split-cons_no}
use Rattle.pmb_bus.specs.Text.{blanked_from, first_run, front_word, in_comment, is_separator}
use Rattle.pmb_io.specs.Lines.{HasNoLf}
use Rattle.pmb_telling.specs.machine.Ends.{ends_word}

-- ---- the word at the front

-- a byte other than `#` begins no comment
-- (35 is `#`)
outside : (b : ℕ) → (b ≡ 35 → ⊥) → in_comment false b ≡ false
outside b other = elim (cases_eq b 10) [
  | inl line ↦ rw line refl
  | inr more ↦ rw (ne_eqb b 10 more, ne_eqb b 35 other)
      refl
]

first_onto : (b : ℕ) (runs : List (List ℕ)) → first_run (onto_first b runs) ≡ b ∷ first_run runs
first_onto b [] = refl
first_onto b (run ∷ runs) = refl

-- the front word of a byte outside comments and what follows it
front_outside : (b : ℕ) (rest : List ℕ) → in_comment false b ≡ false
    → front_word (b ∷ rest) ≡ first_run (slice_split is_separator (b ∷ blanked_from false rest))
front_outside b rest is = ap (λ (v : Bool). first_run (slice_split is_separator (cond v 32 b ∷ blanked_from v rest))) is

front_separated : (b : ℕ) (rest : List ℕ) → (b ≡ 35 → ⊥) → is_separator b ≡ true → front_word (b ∷ rest) ≡ []
front_separated b rest other cuts = front_outside b rest (outside b other)
    ∙ ap first_run (slice_split-cons_yes is_separator b (blanked_from false rest) cuts)

front_kept : (b : ℕ) (rest : List ℕ) → (b ≡ 35 → ⊥) → is_separator b ≡ false
    → front_word (b ∷ rest) ≡ b ∷ front_word rest
front_kept b rest other keeps =
    front_outside b rest (outside b other) ∙ ap first_run
    (slice_split-cons_no is_separator b (blanked_from false rest) keeps)
    ∙ first_onto b (slice_split is_separator (blanked_from false rest))

no_hash : (b : ℕ) → ends_word b ≡ false → b ≡ 35 → ⊥
no_hash b keeps is = false≢true (sym keeps ∙ rw is refl)

no_separator : (b : ℕ) (separates : Bool) → is_separator b ≡ separates → ends_word b ≡ false → is_separator b ≡ false
no_separator b false is keeps = is
no_separator b true is keeps = absurd (false≢true (sym keeps ∙ ap (λ (v : Bool). v || b == 35) is))

separates_else : (b : ℕ) → (b ≡ 35 → ⊥) → ends_word b ≡ true → (separates : Bool) → is_separator b ≡ separates
    → is_separator b ≡ true
separates_else b other ends true is = is
separates_else b other ends false is =
    absurd (false≢true (sym (ne_eqb b 35 other) ∙ (sym (ap (λ (v : Bool). v || b == 35) is) ∙ ends)))

-- a byte that ends a word leaves none
pub front_ends : (b : ℕ) (rest : List ℕ) → ends_word b ≡ true → front_word (b ∷ rest) ≡ []
front_ends b rest ends =
    elim (cases_eq b 35) [
      | inl hash ↦ rw hash refl
      | inr other ↦ front_separated b rest other (separates_else b other ends (is_separator b) refl)
    ]

-- another is the first of it
pub front_keeps : (b : ℕ) (rest : List ℕ) → ends_word b ≡ false → front_word (b ∷ rest) ≡ b ∷ front_word rest
front_keeps b rest keeps = front_kept b rest (no_hash b keeps) (no_separator b (is_separator b) refl keeps)

-- what holds of each byte of a text holds of those of the word at its front
pub each_of_word : (P : ℕ → Type 0) (text : List ℕ) → AllByRecursion P text → AllByRecursion P (front_word text)
each_of_word P [] all = tt
each_of_word P (b ∷ text) all =
    elim (cases_Bool (ends_word b)) [
      | inl ends ↦ subst (AllByRecursion P) (sym (front_ends b text ends)) tt
      | inr keeps ↦ subst (AllByRecursion P) (sym (front_keeps b text keeps)) (all.0, each_of_word P text all.1)
    ]

-- ---- bytes of one word

-- a byte and then others are one word only if the first doesn't end it
solid_first : (b : ℕ) (w : List ℕ) → front_word (b ∷ w) ≡ b ∷ w → (ends_word b ≡ false) × (front_word w ≡ w)
solid_first b w solid =
    elim (cases_Bool (ends_word b)) [
      | inl ends ↦ let no : [] ≡ b ∷ w = sym (front_ends b w ends) ∙ solid in absurd (cc no)
      | inr keeps ↦ let same : b ∷ front_word w ≡ b ∷ w = sym (front_keeps b w keeps) ∙ solid in (keeps, cc)
    ]

-- they are before the word that goes on with them
pub solid_then : (w rest : List ℕ) → front_word w ≡ w → front_word (w ++ rest) ≡ w ++ front_word rest
solid_then [] rest solid = refl
solid_then (b ∷ w) rest solid =
    let first = solid_first b w solid in
    front_keeps b (w ++ rest) first.0 ∙ ap (λ (l : List ℕ). b ∷ l) (solid_then w rest first.1)

-- bytes of one word and then of the same one
pub solid_both : (w more : List ℕ) → front_word w ≡ w → front_word more ≡ more → front_word (w ++ more) ≡ w ++ more
solid_both w more first second = solid_then w more first ∙ ap (λ (l : List ℕ). w ++ l) second

-- a byte of a word
pub solid_byte : (b : ℕ) → ends_word b ≡ false → front_word (b ∷ []) ≡ b ∷ []
solid_byte b keeps = front_keeps b [] keeps

lf_ends : (b : ℕ) → b ≡ 10 → ends_word b ≡ true
lf_ends b is = rw is refl

pub solid_no_lf : (w : List ℕ) → front_word w ≡ w → HasNoLf w
solid_no_lf [] solid = tt
solid_no_lf (b ∷ w) solid =
    let first = solid_first b w solid in
    (λ is. false≢true (sym first.0 ∙ lf_ends b is), solid_no_lf w first.1)

-- nothing of a word is left where the next byte ends it, whatever follows that
pub front_none : (rest more : List ℕ) → rest ≢ [] → front_word rest ≡ [] → front_word (rest ++ more) ≡ []
front_none [] more some none = absurd (some refl)
front_none (b ∷ rest) more some none =
    elim (cases_Bool (ends_word b)) [
      | inl ends ↦ front_ends b (rest ++ more) ends
      | inr keeps ↦ let no : b ∷ front_word rest ≡ [] = sym (front_keeps b rest keeps) ∙ none in absurd (cc no)
    ]

-- ---- lines

pub no_lf_append : (a b : List ℕ) → HasNoLf a → HasNoLf b → HasNoLf (a ++ b)
no_lf_append [] b first second = second
no_lf_append (x ∷ a) b first second = (first.0, no_lf_append a b first.1 second)
