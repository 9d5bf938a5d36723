-- The words of a text and of what goes on with it. For the laws on texts and all steps of the
-- lexer. Comments are blanked with spaces (byte 32) and separators cut what is left into runs; a
-- byte more leaves the words that have ended, ends the word under way or makes it longer.
use Rattle.std.proofs.Common.{◌≡◌, ℕ, Bool, true, false, ◌==◌, inl, inr, cond, List, [], ◌∷◌, ◌++◌, refl, ap, ◌∙◌}
use Rattle.std.specs.List.{slice_split, onto_first, filter}
use Rattle.std.proofs.lemmas.List.{append-nil}
use Rattle.std.proofs.lemmas.List.Elements.{filter-append}
use Rattle.std.proofs.lemmas.List.Splits.{slice_split-cons_yes, slice_split-cons_no}
use Rattle.std.proofs.lemmas.Bool.{cases_eq, ne_eqb, or_parts, or_cases}
use Rattle.pmb_bus.specs.Text.{is_separator, in_comment, blanked_from, ends_in_comment_from, ends_in_comment, runs}
use Rattle.pmb_bus.specs.Text.{is_word, words, all_but_last, last_run, open_word, ended_words}
use Rattle.pmb_bus.specs.machine.Bytes.{ends_word}
use Rattle.pmb_bus.proofs.Splits.{glue, HasRuns, slice_split-HasRuns, slice_split-append, last_run-append}
use Rattle.pmb_bus.proofs.Splits.{all_but_last-append, front_and_last}

-- the runs of what goes on with a text that ends in a comment or not
abbrev pub runs_from : Bool → List ℕ → List (List ℕ)
runs_from before text = slice_split is_separator (blanked_from before text)

-- a byte, or a space in its place in a comment
abbrev pub blank : Bool → ℕ → ℕ
blank before b = cond (in_comment before b) 32 b

-- comments are blanked front and then back
pub blanked_from-append : (before : Bool) (front back : List ℕ)
    → blanked_from before (front ++ back) ≡ blanked_from before front
    ++ blanked_from (ends_in_comment_from before front) back
blanked_from-append before [] back = refl
blanked_from-append before (b ∷ front) back =
    ap (λ (rest : List ℕ). blank before b ∷ rest) (blanked_from-append (in_comment before b) front back)

-- whether two texts end to end end in a comment
pub ends_in_comment_from-append : (before : Bool) (front back : List ℕ)
    → ends_in_comment_from before (front ++ back) ≡ ends_in_comment_from (ends_in_comment_from before front) back
ends_in_comment_from-append before [] back = refl
ends_in_comment_from-append before (b ∷ front) back = ends_in_comment_from-append (in_comment before b) front back

module _ (front back : List ℕ) where
  -- what goes on after a text, with the word under way in front
  abbrev pub going_on : List (List ℕ)
  going_on = glue (open_word front) (runs_from (ends_in_comment front) back)

  -- the runs of two texts end to end
  pub runs-append : runs (front ++ back) ≡ all_but_last (runs front) ++ going_on
  runs-append =
      ap (slice_split is_separator) (blanked_from-append false front back)
      ∙ slice_split-append is_separator (blanked_from false front) (blanked_from (ends_in_comment front) back)

  -- something goes on, if only the word under way
  going_on-HasRuns : HasRuns going_on
  going_on-HasRuns =
      let has = slice_split-HasRuns is_separator (blanked_from (ends_in_comment front) back) in
      (open_word front ++ has.0, has.1, ap (glue (open_word front)) has.2)

  -- the words of two texts end to end
  pub words-append : words (front ++ back) ≡ ended_words front ++ filter is_word going_on
  words-append = ap (filter is_word) runs-append ∙ filter-append is_word (all_but_last (runs front)) going_on

  -- the words that have ended in two texts end to end
  pub ended_words-append : ended_words (front ++ back) ≡ ended_words front ++ filter is_word (all_but_last going_on)
  ended_words-append =
      let has = going_on-HasRuns in
      let split : all_but_last (all_but_last (runs front) ++ going_on) ≡ all_but_last (runs front)
      ++ all_but_last going_on =
      rw (has.2) (all_but_last-append (all_but_last (runs front)) has.0 has.1) in
      ap (λ (all : List (List ℕ)). filter is_word (all_but_last all)) runs-append
      ∙ ap (filter is_word) split
      ∙ filter-append is_word (all_but_last (runs front)) (all_but_last going_on)

  -- the word under way at the end of two texts end to end
  pub open_word-append : open_word (front ++ back) ≡ last_run going_on
  open_word-append =
      let has = going_on-HasRuns in
      ap last_run runs-append ∙ rw (has.2) (last_run-append (all_but_last (runs front)) has.0 has.1)

-- the words of a text are those that have ended and the one under way
pub words_split : (text : List ℕ) → words text ≡ ended_words text ++ filter is_word (open_word text ∷ [])
words_split text =
    let has = slice_split-HasRuns is_separator (blanked_from false text) in
    let split : runs text ≡ all_but_last (runs text) ++ last_run (runs text) ∷ [] =
    rw (has.2) (front_and_last has.0 has.1) in
    ap (filter is_word) split ∙ filter-append is_word (all_but_last (runs text)) (last_run (runs text) ∷ [])

-- a byte that is a separator, or is blanked to one, cuts
pub runs_from-cut : (before : Bool) (b : ℕ) (rest : List ℕ) → is_separator (blank before b) ≡ true
    → runs_from before (b ∷ rest) ≡ [] ∷ runs_from (in_comment before b) rest
runs_from-cut before b rest cuts =
    slice_split-cons_yes is_separator (blank before b) (blanked_from (in_comment before b) rest) cuts

-- a byte in a comment is blanked
pub blank_in : (before : Bool) (b : ℕ) → in_comment before b ≡ true → blank before b ≡ 32
blank_in before b inside = ap (λ (v : Bool). cond v 32 b) inside

-- a byte outside comments stays
pub blank_out : (before : Bool) (b : ℕ) → in_comment before b ≡ false → blank before b ≡ b
blank_out before b outside = ap (λ (v : Bool). cond v 32 b) outside

-- a byte of a word goes on with the run
pub runs_from-kept : (before : Bool) (b : ℕ) (rest : List ℕ) → in_comment before b ≡ false → is_separator b ≡ false
    → runs_from before (b ∷ rest) ≡ onto_first b (runs_from false rest)
runs_from-kept before b rest outside keeps =
    let blanks : blanked_from before (b ∷ rest) ≡ b ∷ blanked_from false rest =
    ap (λ (v : Bool). cond v 32 b ∷ blanked_from v rest) outside in
    ap (slice_split is_separator) blanks ∙ slice_split-cons_no is_separator b (blanked_from false rest) keeps

-- ---- one byte more

-- what a byte that cuts leaves: the word under way has ended
pub record Ended (text : List ℕ) (b : ℕ) : Type 0 where
  pub ended : ended_words (text ++ b ∷ []) ≡ ended_words text ++ filter is_word (open_word text ∷ [])
  pub opened : open_word (text ++ b ∷ []) ≡ []

-- a separator ends the word under way, and so does a blanked byte
pub cut_by : (text : List ℕ) (b : ℕ) → is_separator (blank (ends_in_comment text) b) ≡ true → Ended text b
cut_by text b cuts =
    let after : going_on text (b ∷ []) ≡ (open_word text ++ []) ∷ [] ∷ [] =
    ap (glue (open_word text)) (runs_from-cut (ends_in_comment text) b [] cuts) in
    let whole : going_on text (b ∷ []) ≡ open_word text ∷ [] ∷ [] = rw append-nil at after in record {
      ended = ended_words-append text (b ∷ [])
          ∙ ap (λ (all : List (List ℕ)). ended_words text ++ filter is_word (all_but_last all)) whole;
      opened = open_word-append text (b ∷ []) ∙ ap last_run whole;
    }

-- what a byte of a word leaves: a longer word under way
pub record Longer (text : List ℕ) (b : ℕ) : Type 0 where
  pub ended : ended_words (text ++ b ∷ []) ≡ ended_words text
  pub opened : open_word (text ++ b ∷ []) ≡ open_word text ++ b ∷ []

-- another byte makes it longer
pub longer_by : (text : List ℕ) (b : ℕ) → in_comment (ends_in_comment text) b ≡ false → is_separator b ≡ false
    → Longer text b
longer_by text b outside keeps =
    let after : going_on text (b ∷ []) ≡ (open_word text ++ b ∷ []) ∷ [] =
    ap (glue (open_word text)) (runs_from-kept (ends_in_comment text) b [] outside keeps) in record {
      ended = ended_words-append text (b ∷ [])
          ∙ ap (λ (all : List (List ℕ)). ended_words text ++ filter is_word (all_but_last all)) after
          ∙ append-nil (ended_words text);
      opened = open_word-append text (b ∷ []) ∙ ap last_run after;
    }

-- whether a text with a byte more ends in a comment
pub ends_in_comment_by : (text : List ℕ) (b : ℕ)
    → ends_in_comment (text ++ b ∷ []) ≡ in_comment (ends_in_comment text) b
ends_in_comment_by text b = ends_in_comment_from-append false text (b ∷ [])

-- ---- bytes outside comments

-- 35 is `#`
-- `#` begins a comment, and no other byte does
pub in_comment_from_out : (b : ℕ) → (b ≡ 35 → in_comment false b ≡ true) × (((b ≡ 35) → ⊥) → in_comment false b ≡ false)
in_comment_from_out b = (
  λ is. rw is refl,
  λ other.
      let apart = ne_eqb b 35 other in
      elim (cases_eq b 10) [ inl line ↦ rw line refl | inr more ↦ rw (ne_eqb b 10 more, apart) refl ],
)

-- 10 is LF
-- a LF ends a comment, and no other byte does
pub in_comment_from_in : (b : ℕ) → (b ≡ 10 → in_comment true b ≡ false) × (((b ≡ 10) → ⊥) → in_comment true b ≡ true)
in_comment_from_in b = (λ is. rw is refl, λ other. rw (ne_eqb b 10 other) refl)

-- a byte that ends a word cuts
pub ends_word_cuts : (b : ℕ) → ends_word b ≡ true → is_separator (blank false b) ≡ true
ends_word_cuts b ends =
    elim (cases_eq b 35) [
      | inl hash ↦ rw hash refl
      | inr other ↦
          let apart = ne_eqb b 35 other in
          rw (blank_out false b ((in_comment_from_out b).1 other))
          (elim (or_cases (is_separator b) (b == 35) ends) [ inl separates ↦ separates | inr hash ↦ cc (hash, apart) ])
    ]

-- a byte that ends none is a byte of a word
pub word_byte : (b : ℕ) → ends_word b ≡ false → (in_comment false b ≡ false) × (is_separator b ≡ false)
word_byte b goes_on =
    let parts = or_parts (is_separator b) (b == 35) goes_on in
    ((in_comment_from_out b).1 (λ hash. cc (parts.1, ap (λ (v : ℕ). v == 35) hash)), parts.0)

-- after a `#` each byte cuts
pub comment_cuts : (before : Bool) (b : ℕ) → in_comment before b ≡ true → is_separator (blank before b) ≡ true
comment_cuts before b inside = ap is_separator (blank_in before b inside)

-- in a comment each byte cuts, also the LF that ends it
pub blank_inside_cuts : (b : ℕ) → is_separator (blank true b) ≡ true
blank_inside_cuts b =
    elim (cases_eq b 10) [ inl line ↦ rw line refl | inr other ↦ rw (ne_eqb b 10 other) refl ]
