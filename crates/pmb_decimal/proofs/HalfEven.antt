-- Quotients rounded half to even are within half of the divisor, and even at a tie. For `rounded`
-- and `rounded_word` of `src/rounding.rt`. Three cases: what is left is less than half, more, or
-- half.
use Rattle.std.proofs.Common.{◌≡◌, ℕ, zero, suc, ◌+◌, ◌*◌, ◌/◌, ◌%◌, ◌^◌, ◌<◌, ◌≤◌, inl, inr, ap, arith}
use Rattle.std.proofs.lemmas.Bool.{cases_lt, cases_eq}
use Rattle.std.proofs.lemmas.Bool.Decides.{nat_tests}
use Rattle.std.proofs.lemmas.Nat.{div-add-mod', div_below, mod_below, mul-le}
use Rattle.std.proofs.Math.Nat.{suc-mul, mul-lt-mul_of_pos_right}
use Rattle.pmb_decimal.specs.Decimal.{half_even}

-- what is left is less than half, more, or half
pub half_even-down : (n d : ℕ) → n % d * 2 < d → half_even n d ≡ n / d
unfolding half_even
half_even-down n d less = grind (arith, nat_tests)

pub half_even-up : (n d : ℕ) → d < n % d * 2 → half_even n d ≡ n / d + 1
unfolding half_even
half_even-up n d more = grind (arith, nat_tests)

pub half_even-tie : (n d : ℕ) → n % d * 2 ≡ d → half_even n d ≡ n / d + n / d % 2
unfolding half_even
half_even-tie n d tie =
    elim (cases_eq (n / d % 2) 1) [ inl odd ↦ grind (arith, nat_tests) | inr even ↦ grind (arith, nat_tests) ]

-- r times d is within half of d of n, and r is even where it is just half
pub record IsNear (n d r : ℕ) : Type 0 where
  -- in doubled numbers, so that half is a whole number
  pub from_below : n * 2 ≤ r * d * 2 + d
  pub from_above : r * d * 2 ≤ n * 2 + d
  pub even_below : n * 2 ≡ r * d * 2 + d → r % 2 ≡ 0
  pub even_above : r * d * 2 ≡ n * 2 + d → r % 2 ≡ 0

near-down : (n d r : ℕ) → 0 < d → n % d * 2 < d → r ≡ n / d → IsNear n d r
near-down n d r positive less is =
    let whole = div-add-mod' n d in
    let product : r * d ≡ n / d * d = ap (λ k. k * d) is in
    record {
      from_below = omega arith;
      from_above = omega arith;
      even_below = λ tie. absurd (omega arith);
      even_above = λ tie. absurd (omega arith);
    }

near-up : (n d r : ℕ) → 0 < d → d < n % d * 2 → r ≡ n / d + 1 → IsNear n d r
near-up n d r positive more is =
    let whole = div-add-mod' n d in
    let below = mod_below n d positive in
    let next : n / d + 1 ≡ suc (n / d) = omega arith in
    let product : r * d ≡ (n / d + 1) * d = ap (λ k. k * d) is in
    let one_more : (n / d + 1) * d ≡ n / d * d + d = omega (arith, ap (λ k. k * d) next, suc-mul (n / d) d) in
    record {
      from_below = omega arith;
      from_above = omega arith;
      even_below = λ tie. absurd (omega arith);
      even_above = λ tie. absurd (omega arith);
    }

near-tie : (n d r : ℕ) → 0 < d → n % d * 2 ≡ d → r ≡ n / d + n / d % 2 → IsNear n d r
near-tie n d r positive half is =
    let whole = div-add-mod' n d in
    let even : r % 2 ≡ 0 = omega arith in
    elim (cases_eq (n / d % 2) 0) [
      | inl stays ↦ (let same : r ≡ n / d = omega arith in
          let product : r * d ≡ n / d * d = ap (λ k. k * d) same in
          record {
            from_below = omega arith;
            from_above = omega arith;
            even_below = λ tie. even;
            even_above = λ tie. even;
          })
      | inr grows ↦ (let next : r ≡ suc (n / d) = omega arith in
          let product : r * d ≡ suc (n / d) * d = ap (λ k. k * d) next in
          let one_more = suc-mul (n / d) d in
          record {
            from_below = omega arith;
            from_above = omega arith;
            even_below = λ tie. even;
            even_above = λ tie. even;
          })
    ]

pub half_even-near : (n d : ℕ) → 0 < d → IsNear n d (half_even n d)
half_even-near n d positive =
    elim (cases_lt (n % d * 2) d) [
      | inl less ↦ near-down n d (half_even n d) positive less (half_even-down n d less)
      | inr at_least ↦
          elim (cases_eq (n % d * 2) d) [
            | inl tie ↦ near-tie n d (half_even n d) positive tie (half_even-tie n d tie)
            | inr other ↦ (let more : d < n % d * 2 = omega (arith, other) in
                near-up n d (half_even n d) positive more (half_even-up n d more))
          ]
    ]

-- it is at most what was divided
at_most : (n d r : ℕ) → 0 < d → r * d * 2 ≤ n * 2 + d → r ≤ n
at_most n d zero positive near = omega arith
at_most n d (suc k) positive near =
    let product : k * 1 ≤ k * d = mul-le k 1 k d (omega arith) (omega arith) in
    let one_more = suc-mul k d in
    omega arith

pub half_even-small : (n d : ℕ) → 0 < d → half_even n d ≤ n
half_even-small n d positive = at_most n d (half_even n d) positive (half_even-near n d positive).from_above

-- the whole part of a fraction's units is at most its numerator
pub whole_small : (n d unit : ℕ) → 0 < d → 0 < unit → n < 2 ^ 62 → half_even (n * unit) d / unit < 2 ^ 62
whole_small n d unit positive some small =
    let units = half_even-small (n * unit) d positive in
    let product : n * unit < 2 ^ 62 * unit = mul-lt-mul_of_pos_right small some in
    div_below (half_even (n * unit) d) unit (2 ^ 62) some (omega arith)
