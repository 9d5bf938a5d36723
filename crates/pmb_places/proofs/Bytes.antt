-- Where a `Places` stands after one byte more: for `Places::take`, `take_each`, the open word's
-- functions and the laws on places. Between words, in a word or in a comment, the byte says which
-- comes next, and whether a word begins with it; the last word's place and end follow.
use Rattle.std.proofs.Common.{◌≡◌, ℕ, ◌&&◌, not, Bool, true, false, inl, inr, cond, List, [], ◌∷◌, ◌++◌, fold, refl}
use Rattle.std.proofs.Common.{sym, ap, ◌∙◌}
use Rattle.std.proofs.lemmas.List.{append_assoc, append-nil}
use Rattle.std.proofs.lemmas.List.Sums.{fold-append}
use Rattle.std.proofs.lemmas.Bool.{cases_eq, ne_eqb}
use Rattle.pmb_bus.specs.Text.{ends_in_comment, in_comment, is_separator, is_word, open_word}
use Rattle.pmb_bus.proofs.Tokens.{is_word-append}
use Rattle.pmb_bus.proofs.Words.{blank_out, comment_cuts, cut_by, ends_in_comment_by, in_comment_from_out, longer_by}
use Rattle.pmb_places.specs.declared.places.TextState.{TextState}
use Rattle.pmb_places.specs.declared.places.TextState.TheVariants.{Between, Word, Comment}
use Rattle.pmb_places.specs.declared.places.Place.{Place}
use Rattle.pmb_places.specs.declared.places.Places.{Places}
use Rattle.pmb_places.specs.Text.{begins_word, end_of_last_word, ends_from, first_place, is_in_word, last_place}
use Rattle.pmb_places.specs.Text.{place_after, place_behind, place_if, place_of_last_word, places_from, word_places}
use Rattle.pmb_places.specs.machine.Standing.{PlacesStandAt, after_byte, inside_behind, inside_of, is_comment}
use Rattle.pmb_places.specs.machine.Standing.{is_in_a_word}

-- ---- a byte in a word, by what the one before stands in

of_separator : (s : Bool) → is_in_a_word (cond s Between Word) ≡ not s
of_separator true = refl
of_separator false = refl

no_comment : (s : Bool) → is_comment (cond s Between Word) ≡ false
no_comment true = refl
no_comment false = refl

-- outside of comments
word_outside : (b : ℕ) → is_in_a_word (inside_of b) ≡ (not (in_comment false b) && not (is_separator b))
word_outside b =
    elim (cases_eq b 35) [
      | inl hash ↦ rw hash refl
      | inr other ↦
          let apart : is_in_a_word (inside_of b) ≡ not (is_separator b) =
          rw (ne_eqb b 35 other) (of_separator (is_separator b)) in
          apart ∙ sym (ap (λ (v : Bool). not v && not (is_separator b)) ((in_comment_from_out b).1 other))
    ]

comment_outside : (b : ℕ) → is_comment (inside_of b) ≡ in_comment false b
comment_outside b =
    elim (cases_eq b 35) [
      | inl hash ↦ rw hash refl
      | inr other ↦
          let apart : is_comment (inside_of b) ≡ false = rw (ne_eqb b 35 other) (no_comment (is_separator b)) in
          apart ∙ sym ((in_comment_from_out b).1 other)
    ]

word_inside : (inside : TextState) (b : ℕ) → is_in_a_word (inside_behind inside b)
    ≡ (not (in_comment (is_comment inside) b) && not (is_separator b))
word_inside Between b = word_outside b
word_inside Word b = word_outside b
word_inside Comment b = elim (cases_eq b 10) [ inl line ↦ rw line refl | inr other ↦ rw (ne_eqb b 10 other) refl ]

comment_inside : (inside : TextState) (b : ℕ) → is_comment (inside_behind inside b) ≡ in_comment (is_comment inside) b
comment_inside Between b = comment_outside b
comment_inside Word b = comment_outside b
comment_inside Comment b = elim (cases_eq b 10) [ inl line ↦ rw line refl | inr other ↦ rw (ne_eqb b 10 other) refl ]

-- ---- the word under way

opens_outside : (text : List ℕ) (b : ℕ) (separates : Bool) → is_separator b ≡ separates
    → in_comment (ends_in_comment text) b ≡ false
    → is_word (open_word (text ++ b ∷ [])) ≡ not separates
opens_outside text b true is outside =
    ap is_word (cut_by text b (ap is_separator (blank_out (ends_in_comment text) b outside) ∙ is)).opened
opens_outside text b false is outside = ap is_word (longer_by text b outside is).opened
    ∙ is_word-append (open_word text) b []

opens : (text : List ℕ) (b : ℕ) (inside : Bool) → in_comment (ends_in_comment text) b ≡ inside
    → is_word (open_word (text ++ b ∷ [])) ≡ (not inside && not (is_separator b))
opens text b true is = ap is_word (cut_by text b (comment_cuts (ends_in_comment text) b is)).opened
opens text b false is = opens_outside text b (is_separator b) refl is

-- a byte after a text is one of a word that it leaves under way
pub opens_by : (text : List ℕ) (b : ℕ) → is_word (open_word (text ++ b ∷ [])) ≡ is_in_word text b
opens_by text b = opens text b (in_comment (ends_in_comment text) b) refl

-- ---- places go on

pub places_from-append : (front text more : List ℕ) → places_from front (text ++ more) ≡ places_from front text
    ++ places_from (front ++ text) more
places_from-append front [] more = ap (λ (f : List ℕ). places_from f more) (sym (append-nil front))
places_from-append front (b ∷ text) more =
    ap (λ (rest : List Place). place_if (begins_word front b) (place_behind front) ++ rest)
    (places_from-append (front ++ b ∷ []) text more
    ∙ ap (λ (f : List ℕ). places_from (front ++ b ∷ []) text ++ places_from f more) (append_assoc front (b ∷ []) text))
    ∙ sym (append_assoc (place_if (begins_word front b) (place_behind front)) (places_from (front ++ b ∷ []) text)
    (places_from (front ++ b ∷ text) more))

ends_from-append : (front text more : List ℕ) → ends_from front (text ++ more) ≡ ends_from front text
    ++ ends_from (front ++ text) more
ends_from-append front [] more = ap (λ (f : List ℕ). ends_from f more) (sym (append-nil front))
ends_from-append front (b ∷ text) more =
    ap (λ (rest : List Place). place_if (is_in_word front b) (place_behind (front ++ b ∷ [])) ++ rest)
    (ends_from-append (front ++ b ∷ []) text more
    ∙ ap (λ (f : List ℕ). ends_from (front ++ b ∷ []) text ++ ends_from f more) (append_assoc front (b ∷ []) text))
    ∙ sym (append_assoc (place_if (is_in_word front b) (place_behind (front ++ b ∷ [])))
    (ends_from (front ++ b ∷ []) text) (ends_from (front ++ b ∷ text) more))

-- ---- the last one

last_if : (found : Bool) (place : Place) (before : Place) → fold (λ b place. place) before (place_if found place ++ [])
    ≡ cond found place before
last_if true place before = refl
last_if false place before = refl

last_with : (places : List Place) (found : Bool) (place : Place) → last_place (places ++ (place_if found place ++ []))
    ≡ cond found place (last_place places)
last_with places found place = fold-append (λ b place. place) first_place places (place_if found place ++ [])
    ∙ last_if found place (last_place places)

pub last_word_by : (text : List ℕ) (b : ℕ) → place_of_last_word (text ++ b ∷ [])
    ≡ cond (begins_word text b) (place_behind text) (place_of_last_word text)
last_word_by text b = ap last_place (places_from-append [] text (b ∷ []))
    ∙ last_with (word_places text) (begins_word text b) (place_behind text)

last_end_by : (text : List ℕ) (b : ℕ) → end_of_last_word (text ++ b ∷ [])
    ≡ cond (is_in_word text b) (place_behind (text ++ b ∷ [])) (end_of_last_word text)
last_end_by text b = ap last_place (ends_from-append [] text (b ∷ []))
    ∙ last_with (ends_from [] text) (is_in_word text b) (place_behind (text ++ b ∷ []))

behind_by : (text : List ℕ) (b : ℕ) → place_behind (text ++ b ∷ []) ≡ place_after (place_behind text) b
behind_by text b = fold-append place_after first_place text (b ∷ [])

-- ---- one byte more

pub stands_after : (p : Places) (text : List ℕ) (b : ℕ) → PlacesStandAt p text
    → PlacesStandAt (after_byte p b) (text ++ b ∷ [])
stands_after p text b stands =
    let inside : is_in_a_word (inside_behind p.inside b) ≡ is_in_word text b =
    word_inside p.inside b ∙ ap (λ (c : Bool). not (in_comment c b) && not (is_separator b)) stands.comment in
    let begins : (is_in_a_word (inside_behind p.inside b) && not (is_in_a_word p.inside)) ≡ begins_word text b =
    ap (λ (v : Bool). v && not (is_in_a_word p.inside)) inside
    ∙ ap (λ (v : Bool). is_in_word text b && not v) stands.in_word in record {
      here = ap (λ (place : Place). place_after place b) stands.here ∙ sym (behind_by text b);
      word = ap (λ (v : Bool). cond v p.here p.word) begins
          ∙ ap (λ (place : Place). cond (begins_word text b) place p.word) stands.here
          ∙ ap (cond (begins_word text b) (place_behind text)) stands.word
          ∙ sym (last_word_by text b);
      end = ap (λ (v : Bool). cond v (place_after p.here b) p.end) inside
          ∙ ap (λ (place : Place). cond (is_in_word text b) place p.end)
          (ap (λ (place : Place). place_after place b) stands.here ∙ sym (behind_by text b))
          ∙ ap (cond (is_in_word text b) (place_behind (text ++ b ∷ []))) stands.end
          ∙ sym (last_end_by text b);
      comment = comment_inside p.inside b ∙ ap (λ (c : Bool). in_comment c b) stands.comment
          ∙ sym (ends_in_comment_by text b);
      in_word = inside ∙ sym (opens_by text b);
    }
