-- Each word has a place: for the laws `each_word_has_a_place` and `the_last_word_stands_there`.
-- Byte by byte from the front, both counts grow by one where a byte of a word comes with no word
-- under way.
use Rattle.std.proofs.Common.{◌≡◌, ℕ, ◌+◌, ◌&&◌, not, Bool, true, false, cond, List, [], ◌∷◌, ◌++◌, length, refl, sym}
use Rattle.std.proofs.Common.{ap, ◌∙◌, arith}
use Rattle.std.specs.List.{filter}
use Rattle.std.proofs.lemmas.List.{length-append}
use Rattle.pmb_bus.specs.Text.{ends_in_comment, ended_words, in_comment, is_separator, is_word, open_word, words}
use Rattle.pmb_bus.proofs.Words.{Ended, Longer, blank_out, comment_cuts, cut_by, longer_by, words_split}
use Rattle.pmb_bus.proofs.Fronts.{from_the_front}
use Rattle.pmb_bus.proofs.Tokens.{is_word-append}
use Rattle.pmb_places.specs.declared.places.Place.{Place}
use Rattle.pmb_places.specs.Text.{begins_word, place_behind, place_if, word_places}
use Rattle.pmb_places.proofs.Bytes.{places_from-append}

-- one where it is so
abbrev one_if : Bool → ℕ
one_if found = cond found 1 0

of_place : (found : Bool) (place : Place) → length (place_if found place ++ []) ≡ one_if found
of_place true place = refl
of_place false place = refl

places_by : (text : List ℕ) (b : ℕ) → length (word_places (text ++ b ∷ [])) ≡ length (word_places text) + one_if
    (begins_word text b)
places_by text b =
    ap (λ (places : List Place). length places) (places_from-append [] text (b ∷ []))
    ∙ length-append (word_places text) (place_if (begins_word text b) (place_behind text) ++ [])
    ∙ ap (λ (n : ℕ). length (word_places text) + n) (of_place (begins_word text b) (place_behind text))

of_word : (v : Bool) (word : List ℕ) → is_word word ≡ v → length (filter is_word (word ∷ [])) ≡ one_if v
of_word true word is = rw is refl
of_word false word is = rw is refl

words_of : (text : List ℕ) → length (words text) ≡ length (ended_words text) + one_if (is_word (open_word text))
words_of text =
    ap (λ (ws : List (List ℕ)). length ws) (words_split text)
    ∙ length-append (ended_words text) (filter is_word (open_word text ∷ []))
    ∙ ap (λ (n : ℕ). length (ended_words text) + n) (of_word (is_word (open_word text)) (open_word text) refl)

-- a byte that cuts begins no word
words_cut : (text : List ℕ) (b : ℕ) → Ended text b → length (words (text ++ b ∷ [])) ≡ length (words text)
words_cut text b ended =
    let opened : is_word (open_word (text ++ b ∷ [])) ≡ false = ap is_word ended.opened in
    words_of (text ++ b ∷ [])
    ∙ ap (λ (v : Bool). length (ended_words (text ++ b ∷ [])) + one_if v) opened
    ∙ omega arith
    ∙ ap (λ (ws : List (List ℕ)). length ws) (ended.ended ∙ sym (words_split text))

sum : (all ended : ℕ) (v : Bool) → all ≡ ended + one_if v → ended + 1 ≡ all + one_if (not v)
sum all ended true is = omega arith
sum all ended false is = omega arith

-- a byte of a word begins one where none is under way
words_longer : (text : List ℕ) (b : ℕ) → Longer text b
    → length (words (text ++ b ∷ [])) ≡ length (words text) + one_if (not (is_word (open_word text)))
words_longer text b longer =
    let opened : is_word (open_word (text ++ b ∷ [])) ≡ true = ap is_word longer.opened
    ∙ is_word-append (open_word text) b [] in
    let first : length (words (text ++ b ∷ [])) ≡ length (ended_words text) + 1 =
    words_of (text ++ b ∷ [])
    ∙ ap (λ (v : Bool). length (ended_words (text ++ b ∷ [])) + one_if v) opened
    ∙ ap (λ (ws : List (List ℕ)). length ws + 1) longer.ended in
    first ∙ sum (length (words text)) (length (ended_words text)) (is_word (open_word text)) (words_of text)

abbrev Counted : List ℕ → Type 0
Counted text = length (word_places text) ≡ length (words text)

counted_outside : (text : List ℕ) (b : ℕ) (separates : Bool) → is_separator b ≡ separates
    → in_comment (ends_in_comment text) b ≡ false
    → length (words (text ++ b ∷ [])) ≡ length (words text) + one_if (not separates && not (is_word (open_word text)))
counted_outside text b true is outside =
    words_cut text b (cut_by text b (ap is_separator (blank_out (ends_in_comment text) b outside) ∙ is)) ∙ omega arith
counted_outside text b false is outside = words_longer text b (longer_by text b outside is)

counted_by : (text : List ℕ) (b : ℕ) (inside : Bool) → in_comment (ends_in_comment text) b ≡ inside
    → length (words (text ++ b ∷ [])) ≡ length (words text) + one_if
    ((not inside && not (is_separator b)) && not (is_word (open_word text)))
counted_by text b true is = words_cut text b (cut_by text b (comment_cuts (ends_in_comment text) b is)) ∙ omega arith
counted_by text b false is = counted_outside text b (is_separator b) refl is

-- each word has a place
pub each_counted : (text : List ℕ) → Counted text
each_counted = from_the_front (λ (text : List ℕ). Counted text) refl (λ text b counted.
    places_by text b
    ∙ ap (λ (n : ℕ). n + one_if (begins_word text b)) counted
    ∙ sym (counted_by text b (in_comment (ends_in_comment text) b) refl))
