-- The digits of a number, one by one, beside the number that they make.
use Rattle.std.proofs.Common.{◌≡◌, ◌≤◌, ◌<◌, ℕ, zero, suc, ◌+◌, ◌-◌, ◌*◌, ◌^◌, ◌==◌, ◌||◌, Bool, true, false, not, min}
use Rattle.std.proofs.Common.{List, [], ◌∷◌, ◌++◌, length, take, drop, ap, sym, ◌∙◌, refl, arith, if◌then◌else◌}
use Rattle.std.proofs.Common.{ne_eqb}
use Rattle.std.proofs.Math.Nat.{mul-le-mul_left, pow-suc}
use Rattle.std.proofs.lemmas.Bool.Decides.{nat_tests}
use Rattle.pmb_words.specs.Numbers.{is_digit}
use Rattle.pmb_sample_fields.specs.Scaled.{value_from}
use Rattle.pmb_sample_fields.specs.declared.scaled.Taken.{Taken}
use Rattle.pmb_sample_fields.specs.machine.Digits.{all_taken, digit_taken, taken_at}
use Rattle.pmb_sample_fields.proofs.GrowLemmas.{some_tens}

-- ---- tests

pub not_zero : (n : ℕ) → (suc n == 0) ≡ false
not_zero n = grind (arith, nat_tests)

or_false : (a : Bool) → a ≡ (a || false)
or_false true = refl
or_false false = refl

or_grouped : (a b c : Bool) → ((a || b) || c) ≡ (a || (b || c))
or_grouped true b c = refl
or_grouped false b c = refl

-- ---- the walk

-- whether a digit is not 0
abbrev pub some_digit : List ℕ → Bool
some_digit [] = false
some_digit (digit ∷ digits) = not (digit - 48 == 0) || some_digit digits

behind_point : (limit whole : ℕ) (rest : Bool) (digits : List ℕ)
    → all_taken limit (taken_at 0 whole rest) digits ≡ taken_at 0 whole (rest || some_digit digits)
behind_point limit whole rest [] = ap (λ (r : Bool). taken_at 0 whole r) (or_false rest)
behind_point limit whole rest (digit ∷ digits) =
    behind_point limit whole (rest || not (digit - 48 == 0)) digits
    ∙ ap (λ (r : Bool). taken_at 0 whole r) (or_grouped rest (not (digit - 48 == 0)) (some_digit digits))

capped_step : (number value limit : ℕ) → min (min number limit * 10 + value) limit ≡ min (number * 10 + value) limit
capped_step number value limit = omega arith

in_front_step : (limit left number value : ℕ) (rest : Bool)
    → digit_taken limit (taken_at (suc left) (min number limit) rest) value
    ≡ taken_at left (min (number * 10 + value) limit) rest
in_front_step limit left number value rest =
    let more = taken_at 0 (min number limit) (rest || not (value == 0)) in
    let other = taken_at (suc left - 1) (min (min number limit * 10 + value) limit) rest in
    ap (λ (is : Bool). if is then more else other) (not_zero left)
    ∙ ap (λ (n : ℕ). taken_at n (min (min number limit * 10 + value) limit) rest)
    (let e : suc left - 1 ≡ left = omega arith in e)
    ∙ ap (λ (n : ℕ). taken_at left n rest) (capped_step number value limit)

-- So many digits in front of the point, capped, and whether one of the others is not 0.
pub walked : (limit left number : ℕ) (rest : Bool) (digits : List ℕ)
    → all_taken limit (taken_at left (min number limit) rest) digits
    ≡ taken_at (left - length digits) (min (value_from number (take left digits)) limit)
    (rest || some_digit (drop left digits))
walked limit zero number rest digits =
    behind_point limit (min number limit) rest digits
    ∙ ap (λ (n : ℕ). taken_at n (min number limit) (rest || some_digit digits))
    (let e : 0 ≡ 0 - length digits = omega arith in e)
walked limit (suc left) number rest [] =
    ap (λ (n : ℕ). taken_at n (min number limit) rest) (let e : suc left ≡ suc left - 0 = omega arith in e)
    ∙ ap (λ (r : Bool). taken_at (suc left - 0) (min number limit) r) (or_false rest)
walked limit (suc left) number rest (digit ∷ digits) =
    ap (λ (t : Taken). all_taken limit t digits) (in_front_step limit left number (digit - 48) rest)
    ∙ walked limit left (number * 10 + (digit - 48)) rest digits
    ∙ ap (λ (n : ℕ). taken_at n (min (value_from (number * 10 + (digit - 48)) (take left digits)) limit)
    (rest || some_digit (drop left digits)))
    (let e : left - length digits ≡ suc left - suc (length digits) = omega arith in e)

pub walks_join : (limit : ℕ) (t : Taken) (front back : List ℕ)
    → all_taken limit (all_taken limit t front) back ≡ all_taken limit t (front ++ back)
walks_join limit t [] back = refl
walks_join limit t (digit ∷ front) back = walks_join limit (digit_taken limit t (digit - 48)) front back

-- ---- the number of digits

pub values_join : (number : ℕ) (front back : List ℕ)
    → value_from (value_from number front) back ≡ value_from number (front ++ back)
values_join number [] back = refl
values_join number (digit ∷ front) back = values_join (number * 10 + (digit - 48)) front back

shifted_once : (a b t p q v w : ℕ) → q ≡ p * 10 → w ≡ (a * 10 + b) * p + v → t ≡ b * p + v → w ≡ a * q + t
shifted_once a b t p q v w tens is rest =
    let by : a * q ≡ a * (p * 10) = ap (λ (n : ℕ). a * n) tens in
    omega (arith, by, is, rest)

-- a number in front of some digits
pub value_behind : (number : ℕ) (digits : List ℕ)
    → value_from number digits ≡ number * 10 ^ length digits + value_from 0 digits
value_behind number [] = omega arith
value_behind number (digit ∷ digits) =
    let v = value_from 0 digits in
    let p = 10 ^ length digits in
    let first : value_from (0 * 10 + (digit - 48)) digits ≡ (0 * 10 + (digit - 48)) * p + v =
    value_behind (0 * 10 + (digit - 48)) digits in
    let alone : value_from (0 * 10 + (digit - 48)) digits ≡ (digit - 48) * p + v = omega (arith, first) in
    shifted_once number (digit - 48) (value_from (0 * 10 + (digit - 48)) digits) p (10 ^ suc (length digits)) v
    (value_from (number * 10 + (digit - 48)) digits) (pow-suc 10 (length digits))
    (value_behind (number * 10 + (digit - 48)) digits) alone

-- ---- digits alone

abbrev pub AreDigits : List ℕ → Type 0
AreDigits [] = Unit {0}
AreDigits (byte ∷ text) = (is_digit byte ≡ true) × AreDigits text

pub digits_join : (front back : List ℕ) → AreDigits front → AreDigits back → AreDigits (front ++ back)
digits_join [] back first second = second
digits_join (byte ∷ front) back first second = (first.0, digits_join front back first.1 second)

pub digits_behind : (k : ℕ) (digits : List ℕ) → AreDigits digits → AreDigits (drop k digits)
digits_behind zero digits are = are
digits_behind (suc k) [] are = are
digits_behind (suc k) (byte ∷ digits) are = digits_behind k digits are.1

small_digit : (byte : ℕ) → is_digit byte ≡ true → byte - 48 ≤ 9
small_digit byte is = grind (arith, nat_tests)

below_tens : (a p q v w : ℕ) → a ≤ 9 → v < p → q ≡ p * 10 → w ≡ a * p + v → w < q
below_tens a p q v w few less tens is =
    let most : p * a ≤ p * 9 = mul-le-mul_left p few in
    omega (arith, most, tens, is, less)

-- so many digits are below so many tens
pub value_small : (digits : List ℕ) → AreDigits digits → value_from 0 digits < 10 ^ length digits
value_small [] are = omega arith
value_small (digit ∷ digits) are =
    let v = value_from 0 digits in
    let p = 10 ^ length digits in
    let first : value_from (0 * 10 + (digit - 48)) digits ≡ (0 * 10 + (digit - 48)) * p + v =
    value_behind (0 * 10 + (digit - 48)) digits in
    below_tens (digit - 48) p (10 ^ suc (length digits)) v (value_from (0 * 10 + (digit - 48)) digits)
    (small_digit digit are.0) (value_small digits are.1) (pow-suc 10 (length digits)) (omega (arith, first))

-- ---- whether digits are all 0

sum_test : (a p v w : ℕ) → 1 ≤ p → w ≡ a * p + v → (not (a == 0) || not (v == 0)) ≡ not (w == 0)
sum_test zero p v w some is = ap (λ (n : ℕ). not (n == 0)) (let e : v ≡ w = omega (arith, is) in e)
sum_test (suc a) p v w some is =
    let front : (suc a == 0) ≡ false = not_zero a in
    let whole : (w == 0) ≡ false = ne_eqb w 0 (λ none. omega (arith, is, none)) in
    ap (λ (b : Bool). not b || not (v == 0)) front ∙ ap not (sym whole)

pub some_is_value : (digits : List ℕ) → some_digit digits ≡ not (value_from 0 digits == 0)
some_is_value [] = refl
some_is_value (digit ∷ digits) =
    let v = value_from 0 digits in
    let p = 10 ^ length digits in
    let first : value_from (0 * 10 + (digit - 48)) digits ≡ (0 * 10 + (digit - 48)) * p + v =
    value_behind (0 * 10 + (digit - 48)) digits in
    ap (λ (b : Bool). not (digit - 48 == 0) || b) (some_is_value digits)
    ∙ sum_test (digit - 48) p v (value_from (0 * 10 + (digit - 48)) digits) (some_tens (length digits))
    (omega (arith, first))
