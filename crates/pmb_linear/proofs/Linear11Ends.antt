-- The least and the greatest code of LINEAR11: for `Linear11Codes::least` and `greatest`, and
-- `nearest`. They are 7C00h (31,744), -1,024 * 2^15, and 7BFFh (31,743), 1,023 * 2^15; a value
-- between two multiples of a power lies between those of the greatest.
use Rattle.std.proofs.Common.{◌≡◌, ℕ, suc, ◌*◌, ◌^◌, ◌≤◌, ℤ, pos, negsuc, ◌*ℤ◌, ◌≤ℤ◌, refl, arith}
use Rattle.std.proofs.lemmas.Int.{ints}
use Rattle.std.proofs.lemmas.Nat.{mul-le}
use Rattle.std.proofs.Math.Nat.{pow-le-pow_right}
use Rattle.pmb_format.specs.Coding.{IsWord}
use Rattle.pmb_format.specs.Words.{twos_complement}
use Rattle.pmb_linear.specs.Linear.{mantissa, linear11_numerator, linear11}
use Rattle.pmb_format.specs.Row.{IsLeast, IsGreatest}
use Rattle.pmb_linear.proofs.Linear11Lemmas.{steps, steps_fit, mantissa_fits}

-- a value between two multiples of a power is between those of any greater one
at_least : (y : ℤ) (p t : ℕ) → p ≤ t → negsuc 1023 ≤ℤ y → (negsuc 1023 *ℤ pos t) ≤ℤ (y *ℤ pos p)
at_least (pos n) p t order fits = omega (arith, ints)
at_least (negsuc n) p t order fits =
    let product : suc n * p ≤ 1024 * t = mul-le (suc n) p 1024 t (omega (arith, ints, fits)) order in
    omega (arith, ints)

at_most : (y : ℤ) (p t : ℕ) → p ≤ t → y ≤ℤ pos 1023 → (y *ℤ pos p) ≤ℤ (pos 1023 *ℤ pos t)
at_most (pos n) p t order fits =
    let product : n * p ≤ 1023 * t = mul-le n p 1023 t (omega (arith, ints, fits)) order in
    omega (arith, ints)
at_most (negsuc n) p t order fits = omega (arith, ints)

pub least_value : linear11_numerator 31744 ≡ negsuc 1023 *ℤ pos (2 ^ 31)
unfolding twos_complement
least_value = refl

pub greatest_value : linear11_numerator 31743 ≡ pos 1023 *ℤ pos (2 ^ 31)
unfolding twos_complement
greatest_value = refl

-- no power is above 2^31
power_at_most : (k : ℕ) → IsWord k → 2 ^ steps k ≤ 2 ^ 31
power_at_most k code = pow-le-pow_right {n = 2} (omega arith) {i = steps k} {j = 31} (steps_fit k code)

pub IsLeast-linear11 : IsLeast linear11 31744
IsLeast-linear11 = record {
  is_code = omega arith;
  least = λ k code.
      let fits = mantissa_fits k in
      let product = at_least (mantissa k) (2 ^ steps k) (2 ^ 31) (power_at_most k code) fits.0 in
      omega (arith, ints, least_value, product);
}

pub IsGreatest-linear11 : IsGreatest linear11 31743
IsGreatest-linear11 = record {
  is_code = omega arith;
  greatest = λ k code.
      let fits = mantissa_fits k in
      let product = at_most (mantissa k) (2 ^ steps k) (2 ^ 31) (power_at_most k code) fits.1 in
      omega (arith, ints, greatest_value, product);
}
