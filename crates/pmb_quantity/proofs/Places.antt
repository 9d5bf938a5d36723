-- How many digits after a point a denominator needs, up to 24, or that it has no such number: for
-- `places_of` and `push_magnitude`. A denominator of b fives and a twos needs the greater of a and
-- b, and one with any other factor goes into no power of ten.
use Rattle.std.proofs.Common.{◌≡◌, ◌≢◌, ℕ, zero, suc, ◌+◌, ◌-◌, ◌*◌, ◌/◌, ◌%◌, ◌^◌, ◌<◌, ◌≤◌, max, Bool, true, false}
use Rattle.std.proofs.Common.{eq-eqb, inl, inr, Some, None, refl, sym, ap, ◌∙◌, subst, arith}
use Rattle.std.specs.Int.{◌∣◌, w64, trailing_zeros}
use Rattle.std.proofs.lemmas.Bool.{ne_eqb, cases_eq, cases_lt}
use Rattle.std.proofs.lemmas.Nat.{pow_pos, pow-add, mul-pow, mul-le, mul-mod_first}
use Rattle.std.proofs.lemmas.Nat.Gcd.{dvd_refl, dvd_trans, dvd_of_mod-eq-zero, mod-eq-zero_of_dvd}
use Rattle.std.proofs.Math.Nat.{mul_assoc, mul-div_cancel, div-mul_cancel, div-le_self, pow-suc, zero-mul, one-le-pow}
use Rattle.std.proofs.Math.Nat.{dvd-mul_left, dvd-mul_right, eq-one_of_dvd-one}
use Rattle.pmb_quantity.specs.Fraction.{gcd}
use Rattle.pmb_quantity.specs.QuantityText.{first_of, places_of}
use Rattle.pmb_quantity.proofs.FractionLemmas.{IsGcd-gcd, coprime_product, gcd_swap}
use Rattle.pmb_quantity.proofs.Primes.{two_coprime, five_coprime, five_apart}
use Rattle.pmb_quantity.proofs.Tens.{ten_parts, parts_positive}
use Rattle.pmb_quantity.proofs.TextLemmas.{fits_places, places_of-is, first_of-passes, first_of-fails, first_of-none}
use Rattle.pmb_quantity.proofs.Twos.{odd_part, whole_twos}

-- where each fails there is none
none_of : (test : ℕ → Bool) (from count : ℕ) → ((j : ℕ) → from ≤ j → j < from + count → test j ≡ false)
    → first_of test from count ≡ None
none_of test from zero fails = first_of-none test from 0 refl
none_of test from (suc count) fails =
    let rest = none_of test (from + 1) count (λ j above below. fails j (omega arith) (omega arith)) in
    let less : suc count - 1 ≡ count = omega arith in
    first_of-fails test from (suc count) (omega arith) (fails from (omega arith) (omega arith))
    ∙ ap (first_of test (from + 1)) less ∙ rest

-- the first that passes
first_is : (test : ℕ → Bool) (from count k : ℕ) → from ≤ k → k < from + count
    → ((j : ℕ) → from ≤ j → j < k → test j ≡ false) → test k ≡ true → first_of test from count ≡ Some k
first_is test from zero k above below fails passes = absurd (omega arith)
first_is test from (suc count) k above below fails passes =
    elim (cases_eq k from) [
      | inl same ↦ first_of-passes test from (suc count) (omega arith) (ap test (sym same) ∙ passes)
          ∙ ap Some (sym same)
      | inr other ↦
          let rest = first_is test (from + 1) count k (omega arith) (omega arith)
          (λ j over under. fails j (omega arith) under) passes in
          let less : suc count - 1 ≡ count = omega arith in
          first_of-fails test from (suc count) (omega arith) (fails from (omega arith) (omega arith))
          ∙ ap (first_of test (from + 1)) less ∙ rest
    ]

-- fewer digits that do, with more of them, do too
more_do : (d p : ℕ) → 0 < d → p ≤ 24 → 10 ^ p % d ≡ 0 → 10 ^ 24 % d ≡ 0
more_do d p positive few fits =
    let sum : p + (24 - p) ≡ 24 = omega arith in
    let product : 10 ^ 24 ≡ 10 ^ p * 10 ^ (24 - p) = ap (λ n. 10 ^ n) (sym sum) ∙ pow-add 10 p (24 - p) in
    let none : (10 ^ p % d * 10 ^ (24 - p)) % d ≡ 0 = ap (λ n. (n * 10 ^ (24 - p)) % d) fits
    ∙ ap (λ n. n % d) (zero-mul (10 ^ (24 - p))) ∙ omega arith in
    ap (λ n. n % d) product ∙ sym (mul-mod_first (10 ^ p) (10 ^ (24 - p)) d) ∙ none

pub none_without_last : (d : ℕ) → 0 < d → 10 ^ 24 % d ≢ 0 → places_of d ≡ None
none_without_last d positive rest =
    places_of-is d ∙ none_of (fits_places d) 0 25
    (λ j above below. ne_eqb (10 ^ j % d) 0 (λ fits. rest (more_do d j positive (omega arith) fits)))

-- ---- twos and fives

five_odd : (j : ℕ) → 5 ^ j % 2 ≡ 1
five_odd zero = refl
five_odd (suc j) = omega (arith, pow-suc 5 j, five_odd j)

powers_coprime : (i j : ℕ) → gcd (5 ^ i) (2 ^ j) ≡ 1
powers_coprime i j = two_coprime (5 ^ i) j (λ even. omega (arith, five_odd i, mod-eq-zero_of_dvd 2 even))

-- two multiples of g
divides_less : (x y g : ℕ) → 0 < g → x * g ∣ y * g → x ∣ y
divides_less x y g some divides =
    let q = y * g / (x * g) in
    let whole : q * x * g ≡ y * g = mul_assoc q x g ∙ div-mul_cancel (x * g) divides in
    let same : q * x ≡ y = sym (mul-div_cancel (q * x) some) ∙ ap (λ n. n / g) whole ∙ mul-div_cancel y some in
    subst (λ (n : ℕ). x ∣ n) same (dvd-mul_left x q)

-- a power of b divides no number with fewer factors b
module _ (b c : ℕ) (several : 2 ≤ b) (coprime : (i j : ℕ) → gcd (c ^ i) (b ^ j) ≡ 1) where
  too_few : (k j : ℕ) → j < k → b ^ k ∣ c ^ j * b ^ j → ⊥
  too_few k j less divides =
      -- fewer factors than b^k has: then a power of b would divide one of c,
      let some : 0 < b ^ j = omega (arith, one-le-pow j b (omega arith)) in
      let sum : (k - j) + j ≡ k = omega arith in
      let split : b ^ k ≡ b ^ (k - j) * b ^ j = ap (λ n. b ^ n) (sym sum) ∙ pow-add b (k - j) j in
      let of_c : b ^ (k - j) ∣ c ^ j = divides_less (b ^ (k - j)) (c ^ j) (b ^ j) some
      (subst (λ (n : ℕ). n ∣ c ^ j * b ^ j) split divides) in
      -- which it has no divisor in common with, so that it is 1,
      let one : b ^ (k - j) ≡ 1 = eq-one_of_dvd-one
      (subst (λ (g : ℕ). b ^ (k - j) ∣ g) (coprime j (k - j))
      ((IsGcd-gcd (c ^ j) (b ^ (k - j))).2 (b ^ (k - j)) of_c (dvd_refl (b ^ (k - j))))) in
      -- but it has a factor b
      let more : suc (k - j - 1) ≡ k - j = omega arith in
      let last : b ^ (k - j) ≡ b ^ (k - j - 1) * b = ap (λ n. b ^ n) (sym more) ∙ pow-suc b (k - j - 1) in
      omega (arith, one, last, mul-le 1 2 (b ^ (k - j - 1)) b (one-le-pow (k - j - 1) b (omega arith)) several)

-- ---- the places of b fives and a twos
module _ (a b : ℕ) where
  without_twos : (j : ℕ) → j < a → 10 ^ j % (5 ^ b * 2 ^ a) ≢ 0
  without_twos j less none =
      let divides : 2 ^ a ∣ 10 ^ j = dvd_trans (2 ^ a) (dvd-mul_left (2 ^ a) (5 ^ b))
      (dvd_of_mod-eq-zero (5 ^ b * 2 ^ a) none) in
      too_few 2 5 (omega arith) powers_coprime a j less (subst (λ (n : ℕ). 2 ^ a ∣ n) (mul-pow 5 2 j) divides)

  without_fives : (j : ℕ) → j < b → 10 ^ j % (5 ^ b * 2 ^ a) ≢ 0
  without_fives j less none =
      let divides : 5 ^ b ∣ 10 ^ j = dvd_trans (5 ^ b) (dvd-mul_right (5 ^ b) (2 ^ a))
      (dvd_of_mod-eq-zero (5 ^ b * 2 ^ a) none) in
      too_few 5 2 (omega arith) (λ i m. gcd_swap (5 ^ m) (2 ^ i) ∙ powers_coprime m i) b j less
      (subst (λ (n : ℕ). 5 ^ b ∣ n) (mul-pow 2 5 j) divides)

  too_few_places : (j : ℕ) → j < max a b → 10 ^ j % (5 ^ b * 2 ^ a) ≢ 0
  too_few_places j less =
      elim (cases_lt j a) [ inl two ↦ without_twos j two | inr more ↦ without_fives j (omega arith) ]

  enough : 10 ^ max a b % (5 ^ b * 2 ^ a) ≡ 0
  enough =
      let k = max a b in
      mod-eq-zero_of_dvd (5 ^ b * 2 ^ a) (subst (λ (n : ℕ). 5 ^ b * 2 ^ a ∣ n)
      (ten_parts k b a (omega arith) (omega arith)) (dvd-mul_right (5 ^ b * 2 ^ a) (5 ^ (k - b) * 2 ^ (k - a))))

  pub places_of_parts : max a b ≤ 24 → places_of (5 ^ b * 2 ^ a) ≡ Some (max a b)
  places_of_parts few =
      let d = 5 ^ b * 2 ^ a in
      places_of-is d ∙ first_is (fits_places d) 0 25 (max a b) (omega arith) (omega arith)
      (λ j above below. ne_eqb (10 ^ j % d) 0 (too_few_places j below)) (eq-eqb (10 ^ max a b % d) 0 enough)

  pub places_of_many : 24 < max a b → places_of (5 ^ b * 2 ^ a) ≡ None
  places_of_many many = none_without_last (5 ^ b * 2 ^ a) (parts_positive b a) (too_few_places 24 many)

pub places_of_power : (k : ℕ) → k ≤ 24 → places_of (2 ^ k) ≡ Some k
places_of_power k few =
    let alone : 5 ^ 0 * 2 ^ k ≡ 2 ^ k = omega arith in
    let greater : max k 0 ≡ k = omega arith in
    ap places_of (sym alone) ∙ places_of_parts k 0 (omega arith) ∙ ap Some greater

-- any other factor is in no power of ten
pub places_of_other : (d rest rough : ℕ) → 0 < d → d ≡ rest * rough → rest ≢ 1 → (2 ∣ rest → ⊥) → (5 ∣ rest → ⊥)
    → places_of d ≡ None
places_of_other d rest rough positive is other odd apart =
    none_without_last d positive (λ none.
    let inside : rest ∣ 5 ^ 24 * 2 ^ 24 =
    subst (λ (n : ℕ). rest ∣ n) (mul-pow 5 2 24)
    (dvd_trans rest (subst (λ (n : ℕ). rest ∣ n) (sym is) (dvd-mul_right rest rough))
    (dvd_of_mod-eq-zero d none)) in
    let coprime : gcd rest (5 ^ 24 * 2 ^ 24) ≡ 1 = coprime_product rest (5 ^ 24) (2 ^ 24) (pow_pos 24)
    (five_coprime rest 24 apart) (two_coprime rest 24 odd) in
    other (eq-one_of_dvd-one (subst (λ (g : ℕ). rest ∣ g) coprime
    ((IsGcd-gcd rest (5 ^ 24 * 2 ^ 24)).2 rest (dvd_refl rest) inside))))

-- A number of 64 bits without its twos is rest times five to so many, and rest has none in common
-- with the fives that are left.
module _ (d rest left : ℕ) (positive : 0 < d) (fits : d < 2 ^ 64)
    (value : rest * 5 ^ (28 - left) ≡ d / 2 ^ trailing_zeros w64 d) (lowest : gcd rest (5 ^ left) ≡ 1) where
  denominator_parts : d ≡ rest * (5 ^ (28 - left) * 2 ^ trailing_zeros w64 d)
  denominator_parts =
      let t = trailing_zeros w64 d in
      whole_twos d positive fits ∙ ap (λ x. x * 2 ^ t) (sym value) ∙ mul_assoc rest (5 ^ (28 - left)) (2 ^ t)

  rest_odd : 2 ∣ rest → ⊥
  rest_odd even =
      let inside : 2 ∣ d / 2 ^ trailing_zeros w64 d =
      subst (λ (n : ℕ). 2 ∣ n) value (dvd_trans 2 even (dvd-mul_right rest (5 ^ (28 - left)))) in
      omega (arith, odd_part d positive fits, mod-eq-zero_of_dvd 2 inside)

  -- it has no 28 fives: 5^27 is the greatest power of five below 2^64
  some_left : 0 < left
  some_left =
      elim (cases_eq left 0) [
        | inl none ↦
            let t = trailing_zeros w64 d in
            let whole : rest * 5 ^ 28 ≡ d / 2 ^ t = ap (λ k. rest * 5 ^ (28 - k)) (sym none) ∙ value in
            absurd (omega (arith, odd_part d positive fits, whole, div-le_self d (2 ^ t)))
        | inr other ↦ omega arith
      ]

  pub places_none : rest ≢ 1 → places_of d ≡ None
  places_none other =
      places_of_other d rest (5 ^ (28 - left) * 2 ^ trailing_zeros w64 d) positive denominator_parts other rest_odd
      (five_apart rest left some_left lowest)

  pub places_same : rest ≡ 1 → places_of d ≡ places_of (5 ^ (28 - left) * 2 ^ trailing_zeros w64 d)
  places_same one =
      let parts = 5 ^ (28 - left) * 2 ^ trailing_zeros w64 d in
      ap places_of (denominator_parts ∙ ap (λ x. x * parts) one ∙ omega arith)
