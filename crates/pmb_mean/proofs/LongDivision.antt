-- Long division, digit by digit: for `nearest_units` and `rounded` of `src/division.rt`. The units
-- so far and the rest are those of the fraction times a power of ten; the next digit is the whole
-- part of ten times the rest, below ten.
use Rattle.std.proofs.Common.{◌≡◌, ℕ, ◌+◌, ◌-◌, ◌*◌, ◌/◌, ◌%◌, ◌^◌, ◌<◌, ◌≤◌, add-one, sym, ap, ◌∙◌, arith}
use Rattle.std.proofs.lemmas.Nat.{div-add-mod', div-mul-add, div_below, mod-mul-add, mod_below}
use Rattle.std.proofs.Math.Nat.{add-mul, le_of_mul-le-mul_right, mul-le-mul_right, mul_assoc, mul_comm}
use Rattle.std.proofs.Math.Nat.{mul_right_comm}
use Rattle.std.proofs.Math.Nat.{pow-le-pow_right, pow-suc}
use Rattle.pmb_decimal.specs.Decimal.{half_even}
use Rattle.pmb_decimal.proofs.HalfEven.{IsNear, half_even-down, half_even-near, half_even-tie, half_even-up}

-- n over d with so many digits after the point: whole units, and what is left
pub record IsDivided (n d places units rest : ℕ) : Type 0 where
  pub split : units * d + rest ≡ n * 10 ^ places
  pub below : rest < d
  pub small : units < 2 ^ 62 * 10 ^ places

-- ---- the turns
pow_next : (places : ℕ) → 10 ^ (places + 1) ≡ 10 ^ places * 10
pow_next places = ap (λ k. 10 ^ k) (add-one places) ∙ pow-suc 10 places

pub divided_first : (n d : ℕ) → 0 < d → n ≤ d * (2 ^ 62 - 1) → IsDivided n d 0 (n / d) (n % d)
divided_first n d positive small = record {
  split = omega (arith, div-add-mod' n d);
  below = mod_below n d positive;
  small = omega (arith, div_below n d (2 ^ 62) positive (omega arith));
}

pub divided_next : (n d places units rest : ℕ) → 0 < d → IsDivided n d places units rest
    → IsDivided n d (places + 1) (units * 10 + rest * 10 / d) (rest * 10 % d)
divided_next n d places units rest positive divided =
    let digit : rest * 10 / d < 10 = div_below (rest * 10) d 10 positive (omega (arith, divided.below)) in
    let whole = div-add-mod' (rest * 10) d in
    let sum = add-mul (units * 10) (rest * 10 / d) d in
    let order = mul_right_comm units 10 d in
    let power : 10 ^ (places + 1) ≡ 10 ^ places * 10 = pow_next places in
    let scaled : n * 10 ^ (places + 1) ≡ n * 10 ^ places * 10 = ap (λ p. n * p) power
    ∙ sym (mul_assoc n (10 ^ places) 10) in
    record {
      split = omega (arith, whole, sum, order, divided.split, scaled);
      below = mod_below (rest * 10) d positive;
      small = omega (arith, digit, power, divided.small);
    }

-- the units of up to 12 digits fit
pub units_small : (n d places units rest : ℕ) → places ≤ 12 → IsDivided n d places units rest → units < 2 ^ 102
units_small n d places units rest few divided =
    let power = pow-le-pow_right {n = 10} (omega arith) {i = places} {j = 12} few in
    omega (arith, power, divided.small)

-- ---- the rounding
pub rounds_down : (q r d : ℕ) → r < d → r < d - r → q ≡ half_even (q * d + r) d
rounds_down q r d below less =
    let rest = mod-mul-add q d r below in
    sym (half_even-down (q * d + r) d (omega (arith, rest)) ∙ div-mul-add q d r below)

pub rounds_up : (q r d : ℕ) → r < d → d - r < r → q + 1 ≡ half_even (q * d + r) d
rounds_up q r d below more =
    let rest = mod-mul-add q d r below in
    sym (half_even-up (q * d + r) d (omega (arith, rest)) ∙ ap (λ k. k + 1) (div-mul-add q d r below))

pub rounds_tie : (q r d : ℕ) → r < d → r ≡ d - r → q + q % 2 ≡ half_even (q * d + r) d
rounds_tie q r d below tie =
    let rest = mod-mul-add q d r below in
    sym (half_even-tie (q * d + r) d (omega (arith, rest)) ∙ ap (λ k. k + k % 2) (div-mul-add q d r below))

-- what is rounded is at most the greatest whole number that the fraction is at most
pub whole_below : (n d unit bound : ℕ) → 0 < d → 0 < unit → n ≤ d * bound → half_even (n * unit) d / unit < bound + 1
whole_below n d unit bound positive some small =
    let units = half_even (n * unit) d in
    let near : IsNear (n * unit) d units = half_even-near (n * unit) d positive in
    let product : n * unit ≤ d * bound * unit = mul-le-mul_right unit small in
    let regroup : d * bound * unit ≡ bound * unit * d = mul_assoc d bound unit ∙ mul_comm d (bound * unit) in
    let doubled : units * 2 * d ≤ (bound * unit * 2 + 1) * d =
    omega (
      arith,
      near.from_above,
      product,
      regroup,
      mul_right_comm units 2 d,
      add-mul (bound * unit * 2) 1 d,
      mul_right_comm (bound * unit) 2 d,
    ) in
    let at_most : units * 2 ≤ bound * unit * 2 + 1 = le_of_mul-le-mul_right doubled positive in
    div_below units unit (bound + 1) some (omega (arith, at_most, add-mul bound 1 unit))
