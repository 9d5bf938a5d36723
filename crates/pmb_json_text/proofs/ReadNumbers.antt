-- A number of our grammar is a number by the reader of the crate `json` too. For the laws
-- `spelling_reads_back` and `line_reads_back`. Its parts are read from the front: a minus, digits,
-- a point with digits (46 is the point), an exponent; each ends where the next begins.
use Rattle.std.proofs.Common.{◌≡◌, ℕ, ◌+◌, ◌≤◌, Bool, true, false, cond, ◌==◌, ◌||◌, nat_le, List, [], ◌∷◌, ◌++◌}
use Rattle.std.proofs.Common.{length, drop, Option, Some, None, option_and_then, refl, sym, ap, ap₂, ◌∙◌, subst, arith}
use Rattle.std.proofs.Common.{inl, inr}
use Rattle.std.proofs.lemmas.Bool.{and_parts, leb-true, ne_eqb}
use Rattle.std.proofs.lemmas.List.{append-nil, drop_at}
use Rattle.std.specs.Char.{is_ascii_digit}
use Rattle.std.specs.List.{prefix_len}
use Rattle.json.specs.Word.{head, after_digits, after_minus, after_sign, after_whole, after_fraction, after_exponent}
use Rattle.json.specs.Word.{after_number}
use Rattle.json.specs.Print as reader
use Rattle.pmb_json_text.specs.Json.{AreDigits, AreSomeDigits, IsMinus, IsWhole, IsFraction, IsLetter, IsSigned}
use Rattle.pmb_json_text.specs.Json.{IsExponent, IsNumber}

-- ---- digits

digit_range : (c : ℕ) → is_ascii_digit c ≡ true → (48 ≤ c) × (c ≤ 57)
digit_range c is =
    let range = and_parts (nat_le 48 c) (nat_le c 57) is in
    (leb-true 48 c range.0, leb-true c 57 range.1)

-- no digit follows
abbrev EndsDigits : List ℕ → Type 0
EndsDigits rest = is_ascii_digit (head rest) ≡ false

run : (digits rest : List ℕ) → AreDigits digits → EndsDigits rest → prefix_len is_ascii_digit (digits ++ rest)
    ≡ length digits
run [] [] all ends = refl
run [] (c ∷ rest) all ends = ap (λ (b : Bool). cond b (1 + prefix_len is_ascii_digit rest) 0) ends
run (d ∷ digits) rest all ends =
    let more = run digits rest all.1 ends in
    ap (λ (b : Bool). cond b (1 + prefix_len is_ascii_digit (digits ++ rest)) 0) all.0 ∙ omega (arith, more)

some_run : (digits rest : List ℕ) → AreSomeDigits digits → EndsDigits rest → after_digits (digits ++ rest) ≡ Some rest
some_run [] rest all ends = absurd all
some_run (d ∷ digits) rest all ends =
    let counted = run (d ∷ digits) rest all ends in
    ap (λ (n : ℕ). cond (n == 0) None (Some (drop n ((d ∷ digits) ++ rest)))) counted
    ∙ ap (λ (b : Bool). cond b None (Some (drop (length (d ∷ digits)) ((d ∷ digits) ++ rest))))
    (ne_eqb (length (d ∷ digits)) 0 (λ same. omega (arith, same)))
    ∙ ap Some (drop_at (d ∷ digits) rest (length (d ∷ digits)) refl)

-- ---- the parts, each before what may follow it

-- what may follow: nothing, or a letter of an exponent
exponent_ends : (exponent : List ℕ) → IsExponent exponent → EndsDigits exponent × ((head exponent == 46) ≡ false)
exponent_ends exponent (inl none) = subst (λ (t : List ℕ). EndsDigits t × ((head t == 46) ≡ false)) (sym none)
    (refl, refl)
exponent_ends exponent (inr is) = subst (λ (t : List ℕ). EndsDigits t × ((head t == 46) ≡ false)) (sym is.6)
    (by_letter is.0 (is.1 ++ is.2) is.3)
  where
    by_letter : (letter rest : List ℕ) → IsLetter letter
        → EndsDigits (letter ++ rest) × ((head (letter ++ rest) == 46) ≡ false)
    by_letter letter rest (inl small) = subst
        (λ (t : List ℕ). EndsDigits (t ++ rest) × ((head (t ++ rest) == 46) ≡ false)) (sym small) (refl, refl)
    by_letter letter rest (inr large) = subst
        (λ (t : List ℕ). EndsDigits (t ++ rest) × ((head (t ++ rest) == 46) ≡ false)) (sym large) (refl, refl)

fraction_ends : (fraction exponent : List ℕ) → IsFraction fraction → IsExponent exponent
    → EndsDigits (fraction ++ exponent)
fraction_ends fraction exponent (inl none) last = subst (λ (t : List ℕ). EndsDigits (t ++ exponent)) (sym none)
    (exponent_ends exponent last).0
fraction_ends fraction exponent (inr is) last = subst (λ (t : List ℕ). EndsDigits (t ++ exponent)) (sym is.2) refl

-- digits with no sign before them
unsigned : (digits : List ℕ) → AreSomeDigits digits → after_sign digits ≡ digits
unsigned [] all = absurd all
unsigned (d ∷ digits) all =
    let range = digit_range d all.0 in
    ap₂ (λ (a b : Bool). cond (a || b) (drop 1 (d ∷ digits)) (d ∷ digits))
    (ne_eqb d 45 (λ same. omega (arith, range.0, same))) (ne_eqb d 43 (λ same. omega (arith, range.0, same)))

sign : (signed digits : List ℕ) → IsSigned signed → AreSomeDigits digits → after_sign (signed ++ digits) ≡ digits
sign signed digits (inl none) all = ap (λ (t : List ℕ). after_sign (t ++ digits)) none ∙ unsigned digits all
sign signed digits (inr (inl minus)) all = ap (λ (t : List ℕ). after_sign (t ++ digits)) minus
sign signed digits (inr (inr plus)) all = ap (λ (t : List ℕ). after_sign (t ++ digits)) plus

last_digits : (signed digits : List ℕ) → IsSigned signed → AreSomeDigits digits
    → after_digits (after_sign (signed ++ digits)) ≡ Some []
last_digits signed digits is all =
    ap after_digits (sign signed digits is all) ∙ ap after_digits (sym (append-nil digits))
    ∙ some_run digits [] all refl

exponent : (text : List ℕ) → IsExponent text → after_exponent text ≡ Some []
exponent text (inl none) = ap after_exponent none
exponent text (inr is) = ap after_exponent is.6 ∙ by_letter is.0 is.3
  where
    by_letter : (letter : List ℕ) → IsLetter letter → after_exponent (letter ++ (is.1 ++ is.2)) ≡ Some []
    by_letter letter (inl small) = ap (λ (t : List ℕ). after_exponent (t ++ (is.1 ++ is.2))) small
        ∙ last_digits is.1 is.2 is.4 is.5
    by_letter letter (inr large) = ap (λ (t : List ℕ). after_exponent (t ++ (is.1 ++ is.2))) large
        ∙ last_digits is.1 is.2 is.4 is.5

fraction : (text rest : List ℕ) → IsFraction text → IsExponent rest → after_fraction (text ++ rest) ≡ Some rest
fraction text rest (inl none) last =
    ap (λ (t : List ℕ). after_fraction (t ++ rest)) none
    ∙ ap (λ (b : Bool). cond b (after_digits (drop 1 rest)) (Some rest)) (exponent_ends rest last).1
fraction text rest (inr is) last = ap (λ (t : List ℕ). after_fraction (t ++ rest)) is.2
    ∙ some_run is.0 rest is.1 (exponent_ends rest last).0

whole : (text rest : List ℕ) → IsWhole text → EndsDigits rest → after_whole (text ++ rest) ≡ Some rest
whole [] rest is ends = absurd is
whole (c ∷ more) rest (inl zero_alone) ends = ap (λ (t : List ℕ). after_whole (t ++ rest)) zero_alone
whole (c ∷ more) rest (inr is) ends =
    ap (λ (b : Bool). cond b (Some (drop 1 ((c ∷ more) ++ rest))) (after_digits ((c ∷ more) ++ rest)))
    (ne_eqb c 48 is.0) ∙ some_run (c ∷ more) rest is.1 ends

-- a whole number begins with no minus
no_minus : (text rest : List ℕ) → IsWhole text → after_minus (text ++ rest) ≡ text ++ rest
no_minus [] rest is = absurd is
no_minus (c ∷ more) rest (inl zero_alone) =
    ap (λ (t : List ℕ). after_minus (t ++ rest)) zero_alone ∙ ap (λ (t : List ℕ). t ++ rest) (sym zero_alone)
no_minus (c ∷ more) rest (inr is) =
    let range = digit_range c is.1.0 in
    ap (λ (b : Bool). cond b (drop 1 ((c ∷ more) ++ rest)) ((c ∷ more) ++ rest))
    (ne_eqb c 45 (λ same. omega (arith, range.0, same)))

minus : (text number rest : List ℕ) → IsMinus text → IsWhole number → after_minus (text ++ (number ++ rest)) ≡ number
    ++ rest
minus text number rest (inl none) is = ap (λ (t : List ℕ). after_minus (t ++ (number ++ rest))) none
    ∙ no_minus number rest is
minus text number rest (inr one) is = ap (λ (t : List ℕ). after_minus (t ++ (number ++ rest))) one

pub reads : (text : List ℕ) → IsNumber text → reader.IsNumber text
unfolding after_number
reads text is =
    ap after_number is.parts
    ∙ ap (λ (t : List ℕ). option_and_then after_exponent (option_and_then after_fraction (after_whole t)))
    (minus is.minus is.whole (is.fraction ++ is.exponent) is.is_minus is.is_whole)
    ∙ ap (λ (o : Option (List ℕ)). option_and_then after_exponent (option_and_then after_fraction o))
    (whole is.whole (is.fraction ++ is.exponent) is.is_whole
    (fraction_ends is.fraction is.exponent is.is_fraction is.is_exponent))
    ∙ ap (λ (o : Option (List ℕ)). option_and_then after_exponent o)
    (fraction is.fraction is.exponent is.is_fraction is.is_exponent)
    ∙ exponent is.exponent is.is_exponent
