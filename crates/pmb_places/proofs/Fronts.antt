-- The place of the word that follows a text which ends between words: right after the text. For
-- the law `words_stand_at_their_places`. The first byte of a word neither cuts nor begins a
-- comment, so the word begins with it.
use Rattle.std.proofs.Common.{◌≡◌, ℕ, ◌&&◌, not, Bool, true, false, List, [], ◌∷◌, ◌++◌, refl, sym, ap, ◌∙◌}
use Rattle.std.proofs.lemmas.Bool.{false≢true}
use Rattle.pmb_bus.specs.Text.{EndsBetween, first_run, front_word, in_comment, is_separator, is_word, open_word}
use Rattle.pmb_bus.proofs.Words.{blank, blank_in, blank_out, runs_from-cut}
use Rattle.pmb_places.specs.declared.places.Place.{Place}
use Rattle.pmb_places.specs.Text.{begins_word, place_behind, place_if, places_from, word_places}
use Rattle.pmb_places.proofs.Bytes.{places_from-append}

-- the first byte of a word does not cut
no_cut : (b : ℕ) (rest : List ℕ) (cuts : Bool) → is_separator (blank false b) ≡ cuts
    → is_word (front_word (b ∷ rest)) ≡ true
    → is_separator (blank false b) ≡ false
no_cut b rest true is word =
    absurd (false≢true (sym (ap (λ (runs : List (List ℕ)). is_word (first_run runs)) (runs_from-cut false b rest is))
    ∙ word))
no_cut b rest false is word = is

-- so it stands in no comment, and separates no words
outside : (b : ℕ) (inside : Bool) → in_comment false b ≡ inside → is_separator (blank false b) ≡ false
    → in_comment false b ≡ false
outside b true is keeps = absurd (false≢true (sym keeps ∙ ap is_separator (blank_in false b is)))
outside b false is keeps = is

begins_there : (front : List ℕ) (b : ℕ) (rest : List ℕ) → EndsBetween front → is_word (front_word (b ∷ rest)) ≡ true
    → begins_word front b ≡ true
begins_there front b rest between word =
    let keeps = no_cut b rest (is_separator (blank false b)) refl word in
    let out = outside b (in_comment false b) refl keeps in
    let own : is_separator b ≡ false = ap is_separator (sym (blank_out false b out)) ∙ keeps in
    ap (λ (c : Bool). (not (in_comment c b) && not (is_separator b)) && not (is_word (open_word front))) between.1
    ∙ ap (λ (v : Bool). (not v && not (is_separator b)) && not (is_word (open_word front))) out
    ∙ ap (λ (v : Bool). not v && not (is_word (open_word front))) own
    ∙ ap (λ (word : List ℕ). not (is_word word)) between.0

pub stands_there : (front rest : List ℕ) → EndsBetween front → is_word (front_word rest) ≡ true
    → (more : List Place) × (word_places (front ++ rest) ≡ word_places front ++ place_behind front ∷ more)
stands_there front [] between word = absurd (false≢true word)
stands_there front (b ∷ rest) between word = (
  places_from (front ++ b ∷ []) rest,
  places_from-append [] front (b ∷ rest)
      ∙ ap (λ (begins : Bool). word_places front
      ++ (place_if begins (place_behind front) ++ places_from (front ++ b ∷ []) rest))
      (begins_there front b rest between word),
)
