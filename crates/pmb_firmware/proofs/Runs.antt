-- The runs of a text and of what follows it: for all steps of `PmbLexer`. The last run of the text
-- goes on with the first one of what follows, so that words, the word under way and an open
-- comment of both are known from the end of the text. As `Splits` and `Words` of pmb_bus, whose
-- proofs are not public.
use Rattle.std.proofs.Common.{◌≡◌, ℕ, Bool, true, false, cond, List, [], ◌∷◌, ◌++◌, refl, sym, ap, ◌∙◌}
use Rattle.std.specs.List.{filter, onto_first, slice_split}
use Rattle.std.proofs.lemmas.List.Elements.{filter-append}
use Rattle.pmb_bus.specs.Text.{all_but_last, blanked_from, ended_words, ends_in_comment, ends_in_comment_from}
use Rattle.pmb_bus.specs.Text.{in_comment, is_separator, is_word, last_run, open_word, runs, words}

-- ---- runs of any list

-- a list before the first run
abbrev pub glue : List ℕ → List (List ℕ) → List (List ℕ)
glue word [] = []
glue word (run ∷ more) = (word ++ run) ∷ more

-- runs, and then those of a list that goes on with their last
abbrev joined : List (List ℕ) → List (List ℕ) → List (List ℕ)
joined front back = all_but_last front ++ glue (last_run front) back

-- there is a first run
abbrev pub HasRuns : List (List ℕ) → Type 0
HasRuns all = (first : List ℕ) × (more : List (List ℕ)) × (all ≡ first ∷ more)

onto_some : (x : ℕ) (all : List (List ℕ)) → HasRuns (onto_first x all)
onto_some x [] = (x ∷ [], [], refl)
onto_some x (run ∷ more) = (x ∷ run, more, refl)

pub has_runs : (p : ℕ → Bool) (xs : List ℕ) → HasRuns (slice_split p xs)
has_runs p [] = ([], [], refl)
has_runs p (x ∷ xs) =
    elim (p x) as (λ v. HasRuns (cond v ([] ∷ slice_split p xs) (onto_first x (slice_split p xs)))) [
      | true ↦ ([], slice_split p xs, refl)
      | false ↦ onto_some x (slice_split p xs)
    ]

glue_none : (all : List (List ℕ)) → glue [] all ≡ all
glue_none [] = refl
glue_none (run ∷ more) = refl

onto_joined : (x : ℕ) (front : List (List ℕ)) (run : List ℕ) (more : List (List ℕ))
    → onto_first x (joined front (run ∷ more)) ≡ joined (onto_first x front) (run ∷ more)
onto_joined x [] run more = refl
onto_joined x (first ∷ []) run more = refl
onto_joined x (first ∷ next ∷ front) run more = refl

one_more : (cut : Bool) (x : ℕ) (first : List ℕ) (front : List (List ℕ)) (run : List ℕ) (more all : List (List ℕ))
    → all ≡ joined (first ∷ front) (run ∷ more)
    → cond cut ([] ∷ all) (onto_first x all) ≡ joined (cond cut ([] ∷ first ∷ front) (onto_first x (first ∷ front)))
    (run ∷ more)
one_more true x first front run more all same = ap (λ (rest : List (List ℕ)). [] ∷ rest) same
one_more false x first front run more all same = ap (onto_first x) same ∙ onto_joined x (first ∷ front) run more

-- the runs of two lists, one after the other
split_append : (p : ℕ → Bool) (xs ys : List ℕ) → slice_split p (xs ++ ys) ≡ joined (slice_split p xs) (slice_split p ys)
split_append p [] ys = sym (glue_none (slice_split p ys))
split_append p (x ∷ xs) ys =
    let front = has_runs p xs in
    let back = has_runs p ys in
    let rest = split_append p xs ys in
    rw (front.2, back.2) (one_more (p x) x front.0 front.1 back.0 back.1 (slice_split p (xs ++ ys))
    (rw (front.2, back.2) at rest))

-- the last of two rows of runs, and the others
last_of_both : (front : List (List ℕ)) (run : List ℕ) (more : List (List ℕ))
    → last_run (front ++ run ∷ more) ≡ last_run (run ∷ more)
last_of_both [] run more = refl
last_of_both (first ∷ []) run more = refl
last_of_both (first ∷ next ∷ front) run more = last_of_both (next ∷ front) run more

others_of_both : (front : List (List ℕ)) (run : List ℕ) (more : List (List ℕ))
    → all_but_last (front ++ run ∷ more) ≡ front ++ all_but_last (run ∷ more)
others_of_both [] run more = refl
others_of_both (first ∷ []) run more = refl
others_of_both (first ∷ next ∷ front) run more = ap (λ (rest : List (List ℕ)). first ∷ rest)
    (others_of_both (next ∷ front) run more)

-- ---- runs of texts

blanked_append : (before : Bool) (front back : List ℕ)
    → blanked_from before (front ++ back) ≡ blanked_from before front
    ++ blanked_from (ends_in_comment_from before front) back
blanked_append before [] back = refl
blanked_append before (b ∷ front) back =
    ap (λ (rest : List ℕ). cond (in_comment before b) 32 b ∷ rest) (blanked_append (in_comment before b) front back)

comment_append : (before : Bool) (front back : List ℕ)
    → ends_in_comment_from before (front ++ back) ≡ ends_in_comment_from (ends_in_comment_from before front) back
comment_append before [] back = refl
comment_append before (b ∷ front) back = comment_append (in_comment before b) front back

-- the runs of what follows a text, given the word under way at its end and whether it ends in a
-- comment
abbrev pub following : List ℕ → Bool → List ℕ → List (List ℕ)
following word inside more = glue word (slice_split is_separator (blanked_from inside more))

module _ (text more : List ℕ) where
  abbrev rest : List (List ℕ)
  rest = following (open_word text) (ends_in_comment text) more

  runs_append : runs (text ++ more) ≡ all_but_last (runs text) ++ rest
  runs_append =
      ap (slice_split is_separator) (blanked_append false text more)
      ∙ split_append is_separator (blanked_from false text) (blanked_from (ends_in_comment text) more)

  has_rest : HasRuns rest
  has_rest =
      let has = has_runs is_separator (blanked_from (ends_in_comment text) more) in
      (open_word text ++ has.0, has.1, ap (glue (open_word text)) has.2)

  -- the words of both
  pub words_append : words (text ++ more) ≡ ended_words text ++ filter is_word rest
  words_append = ap (filter is_word) runs_append ∙ filter-append is_word (all_but_last (runs text)) rest

  -- those that have ended
  pub ended_append : ended_words (text ++ more) ≡ ended_words text ++ filter is_word (all_but_last rest)
  ended_append =
      let has = has_rest in
      let split : all_but_last (all_but_last (runs text) ++ rest) ≡ all_but_last (runs text) ++ all_but_last rest =
      rw (has.2) (others_of_both (all_but_last (runs text)) has.0 has.1) in
      ap (λ (all : List (List ℕ)). filter is_word (all_but_last all)) runs_append
      ∙ ap (filter is_word) split
      ∙ filter-append is_word (all_but_last (runs text)) (all_but_last rest)

  -- the word under way
  pub open_append : open_word (text ++ more) ≡ last_run rest
  open_append =
      let has = has_rest in
      ap last_run runs_append ∙ rw (has.2) (last_of_both (all_but_last (runs text)) has.0 has.1)

  -- and whether a comment is open
  pub inside_append : ends_in_comment (text ++ more) ≡ ends_in_comment_from (ends_in_comment text) more
  inside_append = comment_append false text more
