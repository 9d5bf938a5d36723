-- Twos in a number, and what it has in common with a power of two: for `Quantity::from_words`,
-- `common_halvings`, `without_fives` and `places_of`. The number of zero bits at the end is the
-- number of its twos; without them it is odd, and an odd number has nothing in common with 2^j.
use Rattle.std.proofs.Common.{◌≡◌, ℕ, zero, suc, inl, inr, ◌+◌, ◌-◌, ◌*◌, ◌/◌, ◌%◌, ◌^◌, ◌<◌, ◌≤◌, min, pos, sym, ap}
use Rattle.std.proofs.Common.{◌∙◌, arith}
use Rattle.std.specs.Int.{bit_at, w64, trailing_zeros}
use Rattle.std.specs.Int.Count.{trailing_of_zero}
use Rattle.std.proofs.lemmas.Bool.{cases_lt}
use Rattle.std.proofs.lemmas.Nat.{pow_pos, pow-add}
use Rattle.std.proofs.lemmas.Nat.Bits.{bit_at-trailing_zeros, bit_at-zero}
use Rattle.std.proofs.lemmas.Nat.Gcd.{mod-eq-zero_of_dvd}
use Rattle.std.proofs.Math.Nat.{mul_assoc, mul_comm, mul-div_cancel, pow-suc, one-dvd}
use Rattle.pmb_quantity.specs.Fraction.{gcd, lowest_terms}
use Rattle.pmb_quantity.proofs.FractionLemmas.{gcd_is, gcd-scale, gcd-quotients}
use Rattle.pmb_quantity.proofs.Primes.{two_coprime}

gcd_of_odd : (n j : ℕ) → n % 2 ≡ 1 → gcd n (2 ^ j) ≡ 1
gcd_of_odd n j odd = two_coprime n j (λ even. omega (arith, odd, mod-eq-zero_of_dvd 2 even))

pub gcd_of_one : (n : ℕ) → gcd n 1 ≡ 1
gcd_of_one n = gcd_is n 1 1 (one-dvd n, one-dvd 1, λ d of_n of_one. of_one)

-- no digit of two below the t-th is set
no_rest : (t n : ℕ) → ((i : ℕ) → i < t → bit_at n i ≡ 0) → n ≡ n / 2 ^ t * 2 ^ t
no_rest zero n clear = omega arith
no_rest (suc t) n clear =
    let below : n ≡ n / 2 ^ t * 2 ^ t = no_rest t n (λ i less. clear i (omega arith)) in
    let q = n / 2 ^ t in
    let even : q % 2 ≡ 0 = clear t (omega arith) in
    let halves : q ≡ q / 2 * 2 = omega (arith, even) in
    let whole : n ≡ q / 2 * 2 ^ suc t = below ∙ ap (λ x. x * 2 ^ t) halves ∙ mul_assoc (q / 2) 2 (2 ^ t)
    ∙ ap (λ x. q / 2 * x) (mul_comm 2 (2 ^ t) ∙ sym (pow-suc 2 t)) in
    let quotient : n / 2 ^ suc t ≡ q / 2 = ap (λ x. x / 2 ^ suc t) whole ∙ mul-div_cancel (q / 2) (pow_pos (suc t)) in
    whole ∙ ap (λ x. x * 2 ^ suc t) (sym quotient)

-- a number of that many twos, and the greatest common divisor
common : (n h t : ℕ) → t ≤ h → n ≡ n / 2 ^ t * 2 ^ t → gcd (n / 2 ^ t) (2 ^ (h - t)) ≡ 1 → gcd n (2 ^ h) ≡ 2 ^ t
common n h t few whole coprime =
    let sum : (h - t) + t ≡ h = omega arith in
    let power : 2 ^ h ≡ 2 ^ (h - t) * 2 ^ t = ap (λ x. 2 ^ x) (sym sum) ∙ pow-add 2 (h - t) t in
    ap (λ x. gcd x (2 ^ h)) whole ∙ ap (gcd (n / 2 ^ t * 2 ^ t)) power ∙ gcd-scale (n / 2 ^ t) (2 ^ (h - t)) (2 ^ t)
    (pow_pos t) ∙ ap (λ x. x * 2 ^ t) coprime ∙ omega arith

all_of_them : (n h : ℕ) → ((i : ℕ) → i < h → bit_at n i ≡ 0) → gcd n (2 ^ h) ≡ 2 ^ h
all_of_them n h clear =
    let none : h - h ≡ 0 = omega arith in
    common n h h (omega arith) (no_rest h n clear) (ap (λ x. gcd (n / 2 ^ h) (2 ^ x)) none ∙ gcd_of_one (n / 2 ^ h))

-- with two to a power a number has as many twos in common as it has, and no more than that power
pub common_twos : (n h : ℕ) → n < 2 ^ 64 → h ≤ 64 → gcd n (2 ^ h) ≡ 2 ^ min (trailing_zeros w64 n) h
common_twos zero h fits few =
    all_of_them 0 h (λ i less. bit_at-zero i) ∙ ap (λ x. 2 ^ x) (omega (arith, trailing_of_zero 64))
common_twos (suc n) h fits few =
    let t = trailing_zeros w64 (suc n) in
    let digits = bit_at-trailing_zeros w64 (suc n) (omega arith) fits in
    elim (cases_lt t h) [
      | inl less ↦ common (suc n) h t (omega arith) (no_rest t (suc n) digits.2)
          (gcd_of_odd (suc n / 2 ^ t) (h - t) digits.1) ∙ ap (λ x. 2 ^ x) (omega arith)
      | inr more ↦ all_of_them (suc n) h (λ i less. digits.2 i (omega arith)) ∙ ap (λ x. 2 ^ x) (omega arith)
    ]

-- without its twos a number is odd
pub odd_part : (n : ℕ) → 0 < n → n < 2 ^ 64 → n / 2 ^ trailing_zeros w64 n % 2 ≡ 1
odd_part n positive fits = (bit_at-trailing_zeros w64 n positive fits).1

pub whole_twos : (n : ℕ) → 0 < n → n < 2 ^ 64 → n ≡ n / 2 ^ trailing_zeros w64 n * 2 ^ trailing_zeros w64 n
whole_twos n positive fits = no_rest (trailing_zeros w64 n) n (bit_at-trailing_zeros w64 n positive fits).2

-- a positive number of 64 bits has fewer of them
pub few_twos : (n : ℕ) → 0 < n → n < 2 ^ 64 → trailing_zeros w64 n < 64
few_twos n positive fits = (bit_at-trailing_zeros w64 n positive fits).0

power_quotient : (h t : ℕ) → t ≤ h → 2 ^ h / 2 ^ t ≡ 2 ^ (h - t)
power_quotient h t few =
    let sum : (h - t) + t ≡ h = omega arith in
    ap (λ x. 2 ^ x / 2 ^ t) (sym sum) ∙ ap (λ x. x / 2 ^ t) (pow-add 2 (h - t) t)
    ∙ mul-div_cancel (2 ^ (h - t)) (pow_pos t)

-- without them both are in lowest terms
module _ (n h t : ℕ) where
  pub halved_lowest : t ≤ h → gcd n (2 ^ h) ≡ 2 ^ t
      → lowest_terms (pos n) (2 ^ h) ≡ record { numerator = pos (n / 2 ^ t); denominator = 2 ^ (h - t) }
  halved_lowest few is =
      let divided : lowest_terms (pos n) (2 ^ h) ≡ record { numerator = pos (n / 2 ^ t); denominator = 2 ^ h / 2 ^ t } =
      ap (λ g. record { numerator = pos (n / g); denominator = 2 ^ h / g }) is in
      divided ∙ ap (λ x. record { numerator = pos (n / 2 ^ t); denominator = x }) (power_quotient h t few)

  pub halved_coprime : t ≤ h → gcd n (2 ^ h) ≡ 2 ^ t → gcd (n / 2 ^ t) (2 ^ (h - t)) ≡ 1
  halved_coprime few is =
      ap (gcd (n / 2 ^ t)) (sym (power_quotient h t few)) ∙ ap (λ g. gcd (n / g) (2 ^ h / g)) (sym is)
      ∙ gcd-quotients n (2 ^ h) (pow_pos h)
