-- Texts of numbers: how long they are, digits by pairs, and the search for the number of places.
-- For the functions of `text.rt` and `parse.rt` and the laws on texts. A number of two digits more
-- is the text of the number by 100 and these two.
use Rattle.std.proofs.Common.{◌≡◌, ℕ, zero, suc, ◌+◌, ◌-◌, ◌/◌, ◌%◌, ◌^◌, ◌<◌, ◌≤◌, Bool, true, false, cond, ◌==◌, Some}
use Rattle.std.proofs.Common.{None, [], ◌∷◌, ◌++◌, length, length-append, append_assoc, ℤ, pos, negsuc, ◌<ℤ◌, ◌≤ℤ◌}
use Rattle.std.proofs.Common.{refl, ap, ◌∙◌, arith}
use Rattle.std.proofs.lemmas.Int.{ints}
use Rattle.std.specs.Fmt.{decimal}
use Rattle.std.proofs.lemmas.Fmt.{decimal_step, decimal_digit, length-decimal-le}
use Rattle.std.proofs.Math.Nat.{pow-le-pow_right, one-le-pow}
use Rattle.pmb_quantity.specs.QuantityText.{first_of, places_of, padded, minus}

-- a number below 2^62 has at most 19 digits
pub short_decimal : (n : ℕ) → n < 2 ^ 62 → length (decimal n) ≤ 19
short_decimal n small = length-decimal-le 19 n (omega arith) (omega arith) (omega arith)

-- two digits, and two digits more
-- 48 is the digit 0
pub decimal_pair : (n : ℕ) → 10 ≤ n → n < 100 → decimal n ≡ (48 + n / 10) ∷ (48 + n % 10) ∷ []
decimal_pair n large small =
    decimal_step n large (omega arith) ∙ ap (λ ds. ds ++ (48 + n % 10) ∷ []) (decimal_digit (n / 10) (omega arith))

pub decimal_pairs : (n : ℕ) → 100 ≤ n → n < 2 ^ 64
    → decimal n ≡ decimal (n / 100) ++ ((48 + n % 100 / 10) ∷ (48 + n % 100 % 10) ∷ [])
decimal_pairs n large small =
    let front : n / 10 / 10 ≡ n / 100 = omega arith in
    let first : n / 10 % 10 ≡ n % 100 / 10 = omega arith in
    let last : n % 10 ≡ n % 100 % 10 = omega arith in
    decimal_step n (omega arith) small
    ∙ ap (λ ds. ds ++ (48 + n % 10) ∷ []) (decimal_step (n / 10) (omega arith) (omega arith))
    ∙ append_assoc (decimal (n / 10 / 10)) ((48 + n / 10 % 10) ∷ []) ((48 + n % 10) ∷ [])
    ∙ ap (λ x. decimal x ++ ((48 + n / 10 % 10) ∷ (48 + n % 10) ∷ [])) front
    ∙ ap (λ x. decimal (n / 100) ++ ((48 + x) ∷ (48 + n % 10) ∷ [])) first
    ∙ ap (λ x. decimal (n / 100) ++ ((48 + n % 100 / 10) ∷ (48 + x) ∷ [])) last

pub length-decimal_pairs : (n : ℕ) → 100 ≤ n → n < 2 ^ 64 → length (decimal n) ≡ length (decimal (n / 100)) + 2
length-decimal_pairs n large small =
    ap length (decimal_pairs n large small) ∙ length-append (decimal (n / 100))
    ((48 + n % 100 / 10) ∷ (48 + n % 100 % 10) ∷ [])

pub length-padded : (places n : ℕ) → length (padded places n) ≡ places
length-padded zero n = refl
length-padded (suc places) n =
    length-append (padded places (n / 10)) ((48 + n % 10) ∷ []) ∙ omega (arith, length-padded places (n / 10))

-- powers of ten in use are small
pub ten_at_most : (places most : ℕ) → places ≤ most → 10 ^ places ≤ 10 ^ most
ten_at_most places most few = pow-le-pow_right {n = 10} (omega arith) {i = places} {j = most} few

pub ten_small : (places : ℕ) → places ≤ 24 → 10 ^ places ≤ 10 ^ 24
ten_small places few = ten_at_most places 24 few

pub ten_positive : (places : ℕ) → 0 < 10 ^ places
ten_positive places = omega (arith, one-le-pow places 10 (omega arith))

-- whether a fraction of this denominator has so many places
abbrev pub fits_places : ℕ → ℕ → Bool
fits_places d places = 10 ^ places % d == 0

pub places_of-is : (d : ℕ) → places_of d ≡ first_of (fits_places d) 0 25
unfolding places_of
places_of-is d = refl

-- the search goes on where a test fails, ends where one passes, and finds none at its end
pub first_of-passes : (test : ℕ → Bool) (from count : ℕ) → 0 < count → test from ≡ true
    → first_of test from count ≡ Some from
unfolding first_of
first_of-passes test from zero some passes = absurd (omega arith)
first_of-passes test from (suc count) some passes = ap (λ b. cond b (Some from) (first_of test (from + 1) count)) passes

pub first_of-fails : (test : ℕ → Bool) (from count : ℕ) → 0 < count → test from ≡ false
    → first_of test from count ≡ first_of test (from + 1) (count - 1)
unfolding first_of
first_of-fails test from zero some fails = absurd (omega arith)
first_of-fails test from (suc count) some fails =
    ap (λ b. cond b (Some from) (first_of test (from + 1) count)) fails ∙ ap (first_of test (from + 1)) (omega arith)

pub first_of-none : (test : ℕ → Bool) (from count : ℕ) → count ≡ 0 → first_of test from count ≡ None
unfolding first_of
first_of-none test from zero none = refl
first_of-none test from (suc count) none = absurd (omega arith)

-- the sign
-- 45 is the minus sign
pub minus-negative : (z : ℤ) → z <ℤ pos 0 → minus z ≡ 45 ∷ []
minus-negative (pos n) less = absurd (omega (arith, ints))
minus-negative (negsuc n) less = refl

pub minus-positive : (z : ℤ) → pos 0 ≤ℤ z → minus z ≡ []
minus-positive (pos n) more = refl
minus-positive (negsuc n) more = absurd (omega (arith, ints))
