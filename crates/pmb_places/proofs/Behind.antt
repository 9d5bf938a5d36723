-- Places after a front that ends between words: for the laws `each_word_has_a_place` and
-- `the_last_word_stands_there`. The words of the second text have their places after those of the
-- front, as many as there are words.
use Rattle.std.proofs.Common.{◌≡◌, ℕ, zero, suc, ◌+◌, List, [], ◌∷◌, ◌++◌, fold, get_or, length, refl, sym, ap, ◌∙◌}
use Rattle.std.proofs.Common.{arith}
use Rattle.std.proofs.lemmas.List.{get_or_append_left, length-append}
use Rattle.std.proofs.lemmas.List.Sums.{fold-append}
use Rattle.pmb_bus.specs.Text.{EndsBetween, words}
use Rattle.pmb_bus.proofs.Fronts.{words_between}
use Rattle.pmb_places.specs.declared.places.Place.{Place}
use Rattle.pmb_places.specs.Text.{first_place, last_place, place_of_last_word, places_from, word_places}
use Rattle.pmb_places.proofs.Bytes.{places_from-append}
use Rattle.pmb_places.proofs.Counts.{each_counted}

-- each word has a place
pub counted_behind : (front text : List ℕ) → EndsBetween front → length (places_from front text) ≡ length (words text)
counted_behind front text between =
    let all : length (word_places front) + length (places_from front text)
    ≡ length (words front) + length (words text) =
    sym (length-append (word_places front) (places_from front text))
    ∙ ap (λ (places : List Place). length places) (sym (places_from-append [] front text))
    ∙ each_counted (front ++ text)
    ∙ ap (λ (ws : List (List ℕ)). length ws) (words_between front text between.0 between.1)
    ∙ length-append (words front) (words text) in
    let own : length (word_places front) ≡ length (words front) = each_counted front in
    omega arith

-- the last of n + 1 places is the one with number n
last_at : (places : List Place) (n : ℕ) (before other : Place) → length places ≡ n + 1
    → fold (λ b place. place) before places ≡ get_or places n other
last_at [] n before other is = absurd (omega arith)
last_at (p ∷ []) zero before other is = refl
last_at (p ∷ q ∷ rest) zero before other is = absurd (omega arith)
last_at (p ∷ rest) (suc n) before other is = last_at rest n p other (omega arith)

-- so stands the last word, whatever follows
pub last_stands_there : (front text more : List ℕ) (n : ℕ) (other : Place) → EndsBetween front
    → length (words text) ≡ n + 1
    → get_or (places_from front (text ++ more)) n other ≡ place_of_last_word (front ++ text)
last_stands_there front text more n other between count =
    let own : length (places_from front text) ≡ n + 1 = counted_behind front text between ∙ count in
    ap (λ (places : List Place). get_or places n other) (places_from-append front text more)
    ∙ get_or_append_left (places_from front text) (places_from (front ++ text) more) other n (omega arith)
    ∙ sym (last_at (places_from front text) n (last_place (word_places front)) other own)
    ∙ sym (fold-append (λ b place. place) first_place (word_places front) (places_from front text))
    ∙ ap last_place (sym (places_from-append [] front text))
