-- The digits of a number in front of its point, when that has moved, are the number's whole part; and the others say
-- whether there is more.
use Rattle.std.proofs.Common.{◌≡◌, ◌≤◌, ◌<◌, ◌⊎◌, ℕ, zero, suc, ◌+◌, ◌-◌, ◌*◌, ◌/◌, ◌%◌, ◌^◌, ◌==◌, Bool, false}
use Rattle.std.proofs.Common.{not, min, List, [], ◌∷◌, ◌++◌, length, take, drop, ap, sym, ◌∙◌, refl, arith, inl, inr}
use Rattle.std.proofs.Common.{eq-eqb, ne_eqb, length-append, length-drop, subst}
use Rattle.std.proofs.Math.ListN.{take-append-drop}
use Rattle.std.proofs.Math.Nat.{mul-le-mul_right, pow-le-pow_right}
use Rattle.std.proofs.lemmas.Nat.{div-mul-add, mod-mul-add, pow-add}
use Rattle.pmb_sample_fields.specs.Numbers.{Number}
use Rattle.pmb_sample_fields.specs.Scaled.{above, below, down, most, scaled, up, value_from}
use Rattle.pmb_sample_fields.specs.declared.scaled.Scaled.{Scaled}
use Rattle.pmb_sample_fields.specs.declared.scaled.Taken.{Taken}
use Rattle.pmb_sample_fields.specs.machine.Digits.{all_taken, by_digits, ended, grown, in_front, start, taken_at}
use Rattle.pmb_sample_fields.proofs.GrowLemmas.{capped_grows, either_way, some_tens}
use Rattle.pmb_sample_fields.proofs.WalkLemmas.{AreDigits, digits_behind, digits_join, not_zero, some_digit}
use Rattle.pmb_sample_fields.proofs.WalkLemmas.{some_is_value, value_behind, value_small, values_join, walked, walks_join}

-- ---- a quotient and what is left

product_test : (b p : ℕ) → 1 ≤ p → (b * p == 0) ≡ (b == 0)
product_test zero p some = eq-eqb (0 * p) 0 (omega arith)
product_test (suc b) p some = ne_eqb (suc b * p) 0 (λ none. omega (arith, none)) ∙ sym (not_zero b)

-- A number is f, times so many tens; and b is what is left of it.
pub record Parts (v p q f z b : ℕ) : Type 0 where
  pub sum : v * p ≡ f * z * q + b * p
  pub small : b * p < q

quotient : (v p q f z b : ℕ) → Parts v p q f z b → v * p / q ≡ f * z
quotient v p q f z b are = ap (λ (n : ℕ). n / q) are.sum ∙ div-mul-add (f * z) q (b * p) are.small

rest_test : (v p q f z b : ℕ) → 1 ≤ p → Parts v p q f z b → not (v * p % q == 0) ≡ not (b == 0)
rest_test v p q f z b some are =
    ap (λ (n : ℕ). not (n % q == 0)) are.sum
    ∙ ap (λ (n : ℕ). not (n == 0)) (mod-mul-add (f * z) q (b * p) are.small)
    ∙ ap not (product_test b p some)

-- ---- where the point stands

all_taken_front : (k : ℕ) (digits : List ℕ) → length digits ≤ k → take k digits ≡ digits
all_taken_front zero [] fits = refl
all_taken_front zero (digit ∷ digits) fits = absurd (omega arith)
all_taken_front (suc k) [] fits = refl
all_taken_front (suc k) (digit ∷ digits) fits =
    ap (λ (t : List ℕ). digit ∷ t) (all_taken_front k digits (omega arith))

none_behind : (k : ℕ) (digits : List ℕ) → length digits ≤ k → drop k digits ≡ []
none_behind zero [] fits = refl
none_behind zero (digit ∷ digits) fits = absurd (omega arith)
none_behind (suc k) [] fits = refl
none_behind (suc k) (digit ∷ digits) fits = none_behind k digits (omega arith)

-- behind all digits
behind_all : (v p q z : ℕ) → 1 ≤ q → p ≡ z * q → Parts v p q v z 0
behind_all v p q z some is = record {
  sum = let by : v * p ≡ v * (z * q) = ap (λ (n : ℕ). v * n) is in omega (arith, by);
  small = omega arith;
}

times_less : (b t p : ℕ) → 1 ≤ p → b < t → b * p < t * p
times_less b t p some less =
    let more : suc b * p ≤ t * p = mul-le-mul_right p less in
    omega (arith, more)

-- among them, or in front of all
among : (v p q f t b : ℕ) → 1 ≤ p → q ≡ t * p → v ≡ f * t + b → b < t → Parts v p q f 1 b
among v p q f t b some is sum less = record {
  sum =
      let by : v * p ≡ (f * t + b) * p = ap (λ (n : ℕ). n * p) sum in
      let tens : f * 1 * q ≡ f * (t * p) = ap (λ (n : ℕ). f * 1 * n) is ∙ (let e : f * 1 * (t * p) ≡ f * (t * p) = omega arith in e) in
      omega (arith, by, tens);
  small = subst (λ (n : ℕ). b * p < n) (sym is) (times_less b t p some less);
}

-- ---- some digits

abbrev digits_front : ℕ → ℕ → List ℕ → ℕ
digits_front u d digits = length digits + u - d

-- what the digits in front of the point are, and what is left
abbrev IsCut : ℕ → ℕ → List ℕ → Type 0
IsCut u d digits =
    Parts (value_from 0 digits) (10 ^ u) (10 ^ d) (value_from 0 (take (digits_front u d digits) digits))
    (10 ^ (digits_front u d digits - length digits)) (value_from 0 (drop (digits_front u d digits) digits))

-- the number of digits that are cut
cut_value : (k : ℕ) (digits : List ℕ)
    → value_from 0 digits ≡ value_from 0 (take k digits) * 10 ^ length (drop k digits) + value_from 0 (drop k digits)
cut_value k digits =
    ap (value_from 0) (sym (take-append-drop k digits)) ∙ sym (values_join 0 (take k digits) (drop k digits))
    ∙ value_behind (value_from 0 (take k digits)) (drop k digits)

tens_join : (i j k : ℕ) → k ≡ i + j → 10 ^ k ≡ 10 ^ i * 10 ^ j
tens_join i j k is = ap (λ (n : ℕ). 10 ^ n) is ∙ pow-add 10 i j

-- the point is behind all digits
cut_behind : (u d : ℕ) (digits : List ℕ) → d ≤ u → IsCut u d digits
cut_behind u d digits fits =
    let n = length digits in
    let k = digits_front u d digits in
    let all : n ≤ k = omega arith in
    let parts = behind_all (value_from 0 digits) (10 ^ u) (10 ^ d) (10 ^ (k - n)) (some_tens d)
    (tens_join (k - n) d u (omega arith)) in
    subst (λ (f : List ℕ). Parts (value_from 0 digits) (10 ^ u) (10 ^ d) (value_from 0 f) (10 ^ (k - n))
    (value_from 0 (drop k digits))) (sym (all_taken_front k digits all))
    (subst (λ (b : List ℕ). Parts (value_from 0 digits) (10 ^ u) (10 ^ d) (value_from 0 digits) (10 ^ (k - n))
    (value_from 0 b)) (sym (none_behind k digits all)) parts)

-- The point is among them, or in front of all: t is how many digits stand behind it, with zeros in front of them.
sum_among : (k t : ℕ) (digits : List ℕ) → AreDigits digits → length digits ≤ k + t → (k ≡ 0) ⊎ (length digits ≡ k + t)
    → (value_from 0 digits ≡ value_from 0 (take k digits) * 10 ^ t + value_from 0 (drop k digits))
    × (value_from 0 (drop k digits) < 10 ^ t)
sum_among k t digits are fits (inl none) =
    let small : value_from 0 digits < 10 ^ length digits = value_small digits are in
    let more : 10 ^ length digits ≤ 10 ^ t = pow-le-pow_right (let e : 0 < 10 = omega arith in e) (let e : length digits ≤ t = omega (arith, none, fits) in e) in
    subst (λ (n : ℕ). (value_from 0 digits ≡ value_from 0 (take n digits) * 10 ^ t + value_from 0 (drop n digits))
    × (value_from 0 (drop n digits) < 10 ^ t)) (sym none)
    ((let e : value_from 0 digits ≡ 0 * 10 ^ t + value_from 0 digits = omega arith in e), (let e : value_from 0 digits < 10 ^ t = omega arith in e))
sum_among k t digits are fits (inr is) =
    let same : length (drop k digits) ≡ t = length-drop k digits ∙ (let e : length digits - k ≡ t = omega arith in e) in
    let small : value_from 0 (drop k digits) < 10 ^ length (drop k digits) =
    value_small (drop k digits) (digits_behind k digits are) in
    subst (λ (n : ℕ). (value_from 0 digits ≡ value_from 0 (take k digits) * 10 ^ n + value_from 0 (drop k digits))
    × (value_from 0 (drop k digits) < 10 ^ n)) same (cut_value k digits, small)

none_or_all : (n u d : ℕ) → u ≤ d → (n + u - d ≡ 0) ⊎ (n ≡ n + u - d + (d - u))
none_or_all n u d less = elim (either_way d (n + u)) [
  | inl all ↦ inr (omega arith)
  | inr none ↦ inl (omega arith)
]

cut_among : (u d : ℕ) (digits : List ℕ) → AreDigits digits → u ≤ d → IsCut u d digits
cut_among u d digits are less =
    let n = length digits in
    let k = digits_front u d digits in
    let sums = sum_among k (d - u) digits are (omega arith) (none_or_all n u d less) in
    subst (λ (z : ℕ). Parts (value_from 0 digits) (10 ^ u) (10 ^ d) (value_from 0 (take k digits)) z
    (value_from 0 (drop k digits))) (let e : 1 ≡ 10 ^ (k - n) = ap (λ (m : ℕ). 10 ^ m) (let z : 0 ≡ k - n = omega arith in z) in e)
    (among (value_from 0 digits) (10 ^ u) (10 ^ d) (value_from 0 (take k digits)) (10 ^ (d - u))
    (value_from 0 (drop k digits)) (some_tens u) (tens_join (d - u) u d (omega arith)) sums.0 sums.1)

cut : (u d : ℕ) (digits : List ℕ) → AreDigits digits → IsCut u d digits
cut u d digits are = elim (either_way d u) [
  | inl fits ↦ cut_behind u d digits fits
  | inr less ↦ cut_among u d digits are less
]

-- ---- the walk over them

abbrev walk : ℕ → ℕ → ℕ → List ℕ → Taken
walk limit u d digits = all_taken limit (taken_at (digits_front u d digits) 0 false) digits

walk_is : (limit u d : ℕ) (digits : List ℕ) → walk limit u d digits
    ≡ taken_at (digits_front u d digits - length digits)
    (min (value_from 0 (take (digits_front u d digits) digits)) limit)
    (some_digit (drop (digits_front u d digits) digits))
walk_is limit u d digits =
    ap (λ (n : ℕ). all_taken limit (taken_at (digits_front u d digits) n false) digits)
    (let e : 0 ≡ min 0 limit = omega arith in e)
    ∙ walked limit (digits_front u d digits) 0 false digits

whole_is : (limit u d : ℕ) (digits : List ℕ) → AreDigits digits
    → grown limit (walk limit u d digits).whole (walk limit u d digits).left
    ≡ min (value_from 0 digits * 10 ^ u / 10 ^ d) limit
whole_is limit u d digits are =
    let k = digits_front u d digits in
    let z = k - length digits in
    let f = value_from 0 (take k digits) in
    ap (λ (t : Taken). grown limit t.whole t.left) (walk_is limit u d digits)
    ∙ capped_grows f (10 ^ z) limit (some_tens z)
    ∙ ap (λ (n : ℕ). min n limit) (sym (quotient (value_from 0 digits) (10 ^ u) (10 ^ d) f (10 ^ z)
    (value_from 0 (drop k digits)) (cut u d digits are)))

rest_is : (limit u d : ℕ) (digits : List ℕ) → AreDigits digits
    → (walk limit u d digits).has_rest ≡ not (value_from 0 digits * 10 ^ u % 10 ^ d == 0)
rest_is limit u d digits are =
    let k = digits_front u d digits in
    ap (λ (t : Taken). t.has_rest) (walk_is limit u d digits)
    ∙ some_is_value (drop k digits)
    ∙ sym (rest_test (value_from 0 digits) (10 ^ u) (10 ^ d) (value_from 0 (take k digits)) (10 ^ (k - length digits))
    (value_from 0 (drop k digits)) (some_tens u) (cut u d digits are))

-- ---- a number

abbrev scaled_at : Bool → ℕ → Bool → Scaled
scaled_at is_negative whole has_rest = record { is_negative = is_negative; whole = whole; has_rest = has_rest }

front_is : (places : ℕ) (n : Number) → in_front places n
    ≡ digits_front (places + up n.exponent) (length n.fraction + down n.exponent) (n.whole ++ n.fraction)
front_is places n =
    let all : length (n.whole ++ n.fraction) ≡ length n.whole + length n.fraction = length-append n.whole n.fraction in
    omega (arith, all)

by_walk : (places : ℕ) (n : Number) → by_digits places n
    ≡ ended n.is_negative
    (walk most (places + up n.exponent) (length n.fraction + down n.exponent) (n.whole ++ n.fraction))
by_walk places n =
    ap (ended n.is_negative) (walks_join most (start places n) n.whole n.fraction
    ∙ ap (λ (k : ℕ). all_taken most (taken_at k 0 false) (n.whole ++ n.fraction)) (front_is places n))

-- a number whose digits are digits
pub scaled_by_digits : (places : ℕ) (n : Number) → AreDigits n.whole → AreDigits n.fraction
    → by_digits places n ≡ scaled places n
scaled_by_digits places n whole fraction =
    let u = places + up n.exponent in
    let d = length n.fraction + down n.exponent in
    let digits = n.whole ++ n.fraction in
    let are = digits_join n.whole n.fraction whole fraction in
    by_walk places n
    ∙ ap (λ (w : ℕ). scaled_at n.is_negative w (walk most u d digits).has_rest) (whole_is most u d digits are)
    ∙ ap (λ (r : Bool). scaled_at n.is_negative (min (above places n / below n) most) r) (rest_is most u d digits are)
