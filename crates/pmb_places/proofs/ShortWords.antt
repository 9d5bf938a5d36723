-- A word of one or two plain bytes and a space (32), taken at once after a text that is in no
-- comment: for `Places::take` and `OpenWord::take`. A plain byte is greater than 35, `#`, so that
-- it neither separates words nor begins a comment; the place goes along by one column a byte.
use Rattle.std.proofs.Common.{◌≡◌, ℕ, ◌<◌, true, false, List, [], ◌∷◌, ◌++◌, refl, subst, sym, ap, ◌∙◌, arith}
use Rattle.std.proofs.lemmas.List.{append_assoc}
use Rattle.std.proofs.lemmas.Bool.{ltb-true, ne_eqb}
use Rattle.pmb_bus.specs.Text.{ends_in_comment, in_comment, open_word}
use Rattle.pmb_bus.proofs.Words.{ends_in_comment_by, in_comment_from_out}
use Rattle.pmb_places.specs.declared.places.TextState.TheVariants.{Between, Word}
use Rattle.pmb_places.specs.declared.places.Places.{Places}
use Rattle.pmb_places.specs.declared.short_word.ShortWord.TheVariants.{One, Two}
use Rattle.pmb_places.specs.ShortWord.{IsShortWord, is_plain}
use Rattle.pmb_places.specs.machine.Standing.{PlacesStandAt, after_byte, behind_word, place_beside}
use Rattle.pmb_places.proofs.Bytes.{stands_after}
use Rattle.pmb_places.proofs.OpenWords.{ended_by_separator}

-- ---- a plain byte

-- 35 is `#`, 32 a space
apart : (b : ℕ) → is_plain b ≡ true → 35 < b
apart b plain = ltb-true 35 b plain

outside : (b : ℕ) → is_plain b ≡ true → in_comment false b ≡ false
outside b plain = let over = apart b plain in (in_comment_from_out b).1 (λ is. omega (arith, is))

-- ---- the word under way

comment_by : (text : List ℕ) (b : ℕ) → is_plain b ≡ true → ends_in_comment text ≡ false
    → ends_in_comment (text ++ b ∷ []) ≡ false
comment_by text b plain is = ends_in_comment_by text b ∙ ap (λ inside. in_comment inside b) is ∙ outside b plain

space_by : (text : List ℕ) → ends_in_comment text ≡ false → ends_in_comment (text ++ 32 ∷ []) ≡ false
space_by text is = ends_in_comment_by text 32 ∙ ap (λ inside. in_comment inside 32) is

comment_one : (text : List ℕ) (a : ℕ) → is_plain a ≡ true → ends_in_comment text ≡ false
    → ends_in_comment (text ++ a ∷ 32 ∷ []) ≡ false
comment_one text a plain is =
    ap ends_in_comment (sym (append_assoc text (a ∷ []) (32 ∷ [])))
    ∙ space_by (text ++ a ∷ []) (comment_by text a plain is)

comment_two : (text : List ℕ) (a b : ℕ) → is_plain a ≡ true → is_plain b ≡ true → ends_in_comment text ≡ false
    → ends_in_comment (text ++ a ∷ b ∷ 32 ∷ []) ≡ false
comment_two text a b first second is =
    ap ends_in_comment (sym (append_assoc text (a ∷ []) (b ∷ 32 ∷ []))) ∙ comment_one (text ++ a ∷ []) b second
    (comment_by text a first is)

open_one : (text : List ℕ) (a : ℕ) → open_word (text ++ a ∷ 32 ∷ []) ≡ []
open_one text a = ap open_word (sym (append_assoc text (a ∷ []) (32 ∷ [])))
    ∙ ended_by_separator (text ++ a ∷ []) 32 refl

open_two : (text : List ℕ) (a b : ℕ) → open_word (text ++ a ∷ b ∷ 32 ∷ []) ≡ []
open_two text a b = ap open_word (sym (append_assoc text (a ∷ []) (b ∷ 32 ∷ []))) ∙ open_one (text ++ a ∷ []) b

-- no word is under way, and no comment
pub record Closed (text piece : List ℕ) : Type 0 where
  pub opened : open_word (text ++ piece) ≡ []
  pub comment : ends_in_comment (text ++ piece) ≡ false

pub closed_one : (text piece : List ℕ) → IsShortWord One piece → ends_in_comment text ≡ false → Closed text piece
closed_one text piece (a, plain, is) out = record {
  opened = ap (λ (bytes : List ℕ). open_word (text ++ bytes)) is ∙ open_one text a;
  comment = ap (λ (bytes : List ℕ). ends_in_comment (text ++ bytes)) is ∙ comment_one text a plain out;
}

pub closed_two : (text piece : List ℕ) → IsShortWord Two piece → ends_in_comment text ≡ false → Closed text piece
closed_two text piece (a, b, first, second, is) out = record {
  opened = ap (λ (bytes : List ℕ). open_word (text ++ bytes)) is ∙ open_two text a b;
  comment = ap (λ (bytes : List ℕ). ends_in_comment (text ++ bytes)) is ∙ comment_two text a b first second out;
}

-- ---- places

-- after a plain byte that begins a word, and one that goes on with it
abbrev begun : Places → Places
begun p = record { here = place_beside p.here; word = p.here; end = place_beside p.here; inside = Word }

abbrev longer : Places → Places
longer p = record { here = place_beside p.here; word = p.word; end = place_beside p.here; inside = Word }

begins : (p : Places) (b : ℕ) → is_plain b ≡ true → p.inside ≡ Between → after_byte p b ≡ begun p
begins p b plain is =
    let over = apart b plain in
    rw (
      is,
      ne_eqb b 35 (λ is. omega (arith, is)),
      ne_eqb b 32 (λ is. omega (arith, is)),
      ne_eqb b 9 (λ is. omega (arith, is)),
      ne_eqb b 10 (λ is. omega (arith, is)),
      ne_eqb b 13 (λ is. omega (arith, is)),
    ) refl

goes_on : (p : Places) (b : ℕ) → is_plain b ≡ true → p.inside ≡ Word → after_byte p b ≡ longer p
goes_on p b plain is =
    let over = apart b plain in
    rw (
      is,
      ne_eqb b 35 (λ is. omega (arith, is)),
      ne_eqb b 32 (λ is. omega (arith, is)),
      ne_eqb b 9 (λ is. omega (arith, is)),
      ne_eqb b 10 (λ is. omega (arith, is)),
      ne_eqb b 13 (λ is. omega (arith, is)),
    ) refl

after_one : (p : Places) (a : ℕ) → is_plain a ≡ true → p.inside ≡ Between
    → after_byte (after_byte p a) 32 ≡ behind_word p (place_beside p.here)
after_one p a plain is = ap (λ (q : Places). after_byte q 32) (begins p a plain is)

after_two : (p : Places) (a b : ℕ) → is_plain a ≡ true → is_plain b ≡ true → p.inside ≡ Between
    → after_byte (after_byte (after_byte p a) b) 32 ≡ behind_word p (place_beside (place_beside p.here))
after_two p a b first second is =
    ap (λ (q : Places). after_byte (after_byte q b) 32) (begins p a first is)
    ∙ ap (λ (q : Places). after_byte q 32) (goes_on (begun p) b second refl)

pub stands_one : (p : Places) (text : List ℕ) (a : ℕ) → PlacesStandAt p text → is_plain a ≡ true → p.inside ≡ Between
    → PlacesStandAt (behind_word p (place_beside p.here)) (text ++ a ∷ 32 ∷ [])
stands_one p text a stands plain is =
    subst (λ (given : List ℕ). PlacesStandAt (behind_word p (place_beside p.here)) given)
    (append_assoc text (a ∷ []) (32 ∷ []))
    (subst (λ (q : Places). PlacesStandAt q ((text ++ a ∷ []) ++ 32 ∷ [])) (after_one p a plain is)
    (stands_after (after_byte p a) (text ++ a ∷ []) 32 (stands_after p text a stands)))

pub stands_two : (p : Places) (text : List ℕ) (a b : ℕ) → PlacesStandAt p text → is_plain a ≡ true → is_plain b ≡ true
    → p.inside ≡ Between
    → PlacesStandAt (behind_word p (place_beside (place_beside p.here))) (text ++ a ∷ b ∷ 32 ∷ [])
stands_two p text a b stands first second is =
    subst (λ (given : List ℕ). PlacesStandAt (behind_word p (place_beside (place_beside p.here))) given)
    (append_assoc (text ++ a ∷ []) (b ∷ []) (32 ∷ []) ∙ append_assoc text (a ∷ []) (b ∷ 32 ∷ []))
    (subst (λ (q : Places). PlacesStandAt q (((text ++ a ∷ []) ++ b ∷ []) ++ 32 ∷ [])) (after_two p a b first second is)
    (stands_after (after_byte (after_byte p a) b) ((text ++ a ∷ []) ++ b ∷ []) 32
    (stands_after (after_byte p a) (text ++ a ∷ []) b (stands_after p text a stands))))
