-- The word under way: what one byte more makes of it, where it stands, and what it is to the text
-- that begins with it. For the functions of `OpenWord` and `Tail`, `Places::take`, and the laws on
-- open words. It stands right after what comes before it, and a text that goes on with it begins
-- with the whole word.
use Rattle.std.proofs.Common.{◌≡◌, ℕ, ◌&&◌, not, Bool, true, false, cond, inl, inr, List, [], ◌∷◌, ◌++◌, refl, sym, ap}
use Rattle.std.proofs.Common.{◌∙◌}
use Rattle.std.specs.List.{onto_first}
use Rattle.std.proofs.lemmas.List.{append_assoc, append_cancel_right, append-nil}
use Rattle.std.proofs.lemmas.Bool.{cases_Bool, false≢true}
use Rattle.pmb_bus.specs.Text.{EndsBetween, blanked_from, ends_in_comment, first_run, front_word, in_comment}
use Rattle.pmb_bus.specs.Text.{is_separator, is_word, last_run, open_word, runs}
use Rattle.pmb_bus.proofs.Fronts.{from_the_front, in_front, open_word_in_comment, runs-word}
use Rattle.pmb_bus.proofs.Splits.{HasRuns, glue, glue-nil, slice_split-HasRuns}
use Rattle.pmb_bus.proofs.Tokens.{is_word-append}
use Rattle.pmb_bus.proofs.Words.{blank, blank_out, comment_cuts, cut_by, longer_by, open_word-append, runs_from}
use Rattle.pmb_bus.proofs.Words.{runs_from-cut, runs_from-kept}
use Rattle.pmb_places.specs.Text.{begins_word, place_behind, place_of_last_word}
use Rattle.pmb_places.proofs.Bytes.{last_word_by}

-- ---- one byte more

pub longer : (text : List ℕ) (b : ℕ) → in_comment (ends_in_comment text) b ≡ false → is_separator b ≡ false
    → open_word (text ++ b ∷ []) ≡ open_word text ++ b ∷ []
longer text b outside keeps = (longer_by text b outside keeps).opened

pub ended_in_comment : (text : List ℕ) (b : ℕ) → in_comment (ends_in_comment text) b ≡ true
    → open_word (text ++ b ∷ []) ≡ []
ended_in_comment text b inside = (cut_by text b (comment_cuts (ends_in_comment text) b inside)).opened

pub ended_by_separator : (text : List ℕ) (b : ℕ) → is_separator b ≡ true → open_word (text ++ b ∷ []) ≡ []
ended_by_separator text b separates =
    elim (cases_Bool (in_comment (ends_in_comment text) b)) [
      | inl inside ↦ ended_in_comment text b inside
      | inr outside ↦ (cut_by text b (ap is_separator (blank_out (ends_in_comment text) b outside) ∙ separates)).opened
    ]

-- a byte of a word: it stands in no comment and separates no words
record InWord (text : List ℕ) (b : ℕ) : Type 0 where
  -- it stands in no comment,
  pub outside : in_comment (ends_in_comment text) b ≡ false
  -- and separates no words
  pub keeps : is_separator b ≡ false

-- a byte after which a word is under way is one of that word
in_word : (text : List ℕ) (b : ℕ) → is_word (open_word (text ++ b ∷ [])) ≡ true → InWord text b
in_word text b word =
    elim (cases_Bool (in_comment (ends_in_comment text) b)) [
      | inl inside ↦ absurd (false≢true (sym (ap is_word (ended_in_comment text b inside)) ∙ word))
      | inr outside ↦
          elim (cases_Bool (is_separator b)) [
            | inl separates ↦ absurd (false≢true (sym (ap is_word (ended_by_separator text b separates)) ∙ word))
            | inr keeps ↦ record { outside = outside; keeps = keeps }
          ]
    ]

-- ---- where it stands

abbrev Stands : List ℕ → List ℕ → Type 0
Stands front word = is_word word ≡ true → open_word (front ++ word) ≡ word → place_of_last_word (front ++ word)
    ≡ place_behind front

-- a byte of a word begins one if none is under way
begins_by : (text : List ℕ) (b : ℕ) (v : Bool) → InWord text b → is_word (open_word text) ≡ v
    → begins_word text b ≡ not v
begins_by text b v byte is =
    ap (λ (c : Bool). (not c && not (is_separator b)) && not (is_word (open_word text))) byte.outside
    ∙ ap (λ (c : Bool). not c && not (is_word (open_word text))) byte.keeps
    ∙ ap not is

stands_by : (front word : List ℕ) (b : ℕ) → Stands front word → open_word (front ++ word) ≡ word
    → InWord (front ++ word) b
    → place_of_last_word ((front ++ word) ++ b ∷ []) ≡ place_behind front
stands_by front [] b before opened byte =
    last_word_by (front ++ []) b
    ∙ ap (λ (v : Bool). cond v (place_behind (front ++ [])) (place_of_last_word (front ++ [])))
    (begins_by (front ++ []) b false byte (ap is_word opened))
    ∙ ap place_behind (append-nil front)
stands_by front (a ∷ word) b before opened byte =
    last_word_by (front ++ a ∷ word) b
    ∙ ap (λ (v : Bool). cond v (place_behind (front ++ a ∷ word)) (place_of_last_word (front ++ a ∷ word)))
    (begins_by (front ++ a ∷ word) b true byte (ap is_word opened))
    ∙ before refl opened

stands_more : (front word : List ℕ) (b : ℕ) → Stands front word → Stands front (word ++ b ∷ [])
stands_more front word b before some opened =
    let same : front ++ (word ++ b ∷ []) ≡ (front ++ word) ++ b ∷ [] = sym (append_assoc front word (b ∷ [])) in
    let opened_by : open_word ((front ++ word) ++ b ∷ []) ≡ word ++ b ∷ [] = ap open_word (sym same) ∙ opened in
    let byte = in_word (front ++ word) b (ap is_word opened_by ∙ is_word-append word b []) in
    let shorter : open_word (front ++ word) ≡ word =
    append_cancel_right (open_word (front ++ word)) word (b ∷ [])
    (sym (longer (front ++ word) b byte.outside byte.keeps) ∙ opened_by) in
    ap place_of_last_word same ∙ stands_by front word b before shorter byte

-- the word under way stands after what comes before it
pub open_stands : (front word : List ℕ) → Stands front word
open_stands front = from_the_front (Stands front) (λ none. absurd (false≢true none)) (stands_more front)

-- ---- bytes of one word

first_onto : (b : ℕ) (all : List (List ℕ)) → first_run (onto_first b all) ≡ b ∷ first_run all
first_onto b [] = refl
first_onto b (run ∷ more) = refl

-- a byte that cuts is not the first of a word
no_first : (b : ℕ) (rest : List ℕ) → is_separator (blank false b) ≡ true → front_word (b ∷ rest) ≡ b ∷ rest → ⊥
no_first b rest cuts whole =
    false≢true (ap (λ (all : List (List ℕ)). is_word (first_run all)) (sym (runs_from-cut false b rest cuts))
    ∙ ap is_word whole)

-- bytes that are their first word are one run
one_run : (word : List ℕ) → front_word word ≡ word → runs word ≡ word ∷ []
one_run [] whole = refl
one_run (b ∷ rest) whole =
    elim (cases_Bool (in_comment false b)) [
      | inl inside ↦ absurd (no_first b rest (comment_cuts false b inside) whole)
      | inr outside ↦
          elim (cases_Bool (is_separator b)) [
            | inl separates ↦ absurd (no_first b rest (ap is_separator (blank_out false b outside) ∙ separates) whole)
            | inr keeps ↦
                let kept : runs (b ∷ rest) ≡ onto_first b (runs rest) = runs_from-kept false b rest outside keeps in
                let tail : b ∷ front_word rest ≡ b ∷ rest = sym (first_onto b (runs rest)) ∙ ap first_run (sym kept)
                ∙ whole in
                kept ∙ ap (onto_first b) (one_run rest (cc tail))
          ]
    ]

-- after a text that ends between words they are under way
pub opened_behind : (front word : List ℕ) → EndsBetween front → front_word word ≡ word
    → open_word (front ++ word) ≡ word
opened_behind front word between whole =
    open_word-append front word
    ∙ ap (λ (opened : List ℕ). last_run (glue opened (runs_from (ends_in_comment front) word))) between.0
    ∙ ap (λ (inside : Bool). last_run (glue [] (runs_from inside word))) between.1
    ∙ ap last_run (glue-nil (runs word) ∙ one_run word whole)

-- ---- what comes before it

-- where a word is under way, no comment is
pub no_comment : (text : List ℕ) → is_word (open_word text) ≡ true → ends_in_comment text ≡ false
no_comment text word =
    elim (cases_Bool (ends_in_comment text)) [
      | inl inside ↦ absurd (false≢true (sym (ap is_word (open_word_in_comment text inside)) ∙ word))
      | inr outside ↦ outside
    ]

pub found_behind : (text : List ℕ) → is_word (open_word text) ≡ true
    → (front : List ℕ) × (text ≡ front ++ open_word text) × EndsBetween front
    × (place_of_last_word text ≡ place_behind front)
found_behind text word =
    let at = in_front text (no_comment text word) in (
      at.front,
      at.split,
      (at.opened, at.outside),
      ap place_of_last_word at.split ∙ open_stands at.front (open_word text) word (ap open_word (sym at.split)),
    )

-- ---- the text that begins with it

-- the word under way, and what goes on with it
with_more : (text more : List ℕ) → ends_in_comment text ≡ false
    → runs (open_word text ++ more) ≡ glue (open_word text) (runs_from false more)
with_more text more outside =
    let at = in_front text outside in
    runs-word (open_word text) more at.solid at.clear

first_glued : (word : List ℕ) (all : List (List ℕ)) → HasRuns all → first_run (glue word all) ≡ word ++ first_run all
first_glued word all has = rw (has.2) refl

begun_outside : (text more : List ℕ) → ends_in_comment text ≡ false → front_word (open_word text ++ more)
    ≡ open_word text ++ front_word more
begun_outside text more outside =
    ap first_run (with_more text more outside)
    ∙ first_glued (open_word text) (runs more) (slice_split-HasRuns is_separator (blanked_from false more))

pub begun : (text more : List ℕ) → front_word (open_word text ++ more) ≡ open_word text ++ front_word more
begun text more =
    elim (cases_Bool (ends_in_comment text)) [
      | inl inside ↦
          let none : open_word text ≡ [] = open_word_in_comment text inside in
          ap (λ (word : List ℕ). front_word (word ++ more)) none
          ∙ sym (ap (λ (word : List ℕ). word ++ front_word more) none)
      | inr outside ↦ begun_outside text more outside
    ]

-- a byte that ends a word begins none
no_front : (text more : List ℕ) (b : ℕ) → ends_in_comment text ≡ false → open_word (text ++ b ∷ []) ≡ []
    → front_word (b ∷ more) ≡ []
no_front text more b outside ends =
    elim (cases_Bool (in_comment false b)) [
      | inl inside ↦ ap first_run (runs_from-cut false b more (comment_cuts false b inside))
      | inr out ↦
          elim (cases_Bool (is_separator b)) [
            | inl separates ↦ ap first_run (runs_from-cut false b more
                (ap is_separator (blank_out false b out) ∙ separates))
            | inr keeps ↦
                let longer_word : open_word (text ++ b ∷ []) ≡ open_word text ++ b ∷ [] =
                longer text b (ap (λ (v : Bool). in_comment v b) outside ∙ out) keeps in
                absurd (false≢true (ap is_word (sym ends ∙ longer_word) ∙ is_word-append (open_word text) b []))
          ]
    ]

pub ended : (text more : List ℕ) (b : ℕ) → is_word (open_word text) ≡ true → open_word (text ++ b ∷ []) ≡ []
    → front_word (open_word text ++ b ∷ more) ≡ open_word text
ended text more b word ends =
    let outside = no_comment text word in
    begun_outside text (b ∷ more) outside
    ∙ ap (λ (rest : List ℕ). open_word text ++ rest) (no_front text more b outside ends)
    ∙ append-nil (open_word text)

pub last : (text : List ℕ) → front_word (open_word text) ≡ open_word text
last text = ap front_word (sym (append-nil (open_word text))) ∙ begun text [] ∙ append-nil (open_word text)
