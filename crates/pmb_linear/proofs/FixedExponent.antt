-- LINEAR11 with one exponent has evenly spaced values: for the codes of `linear11_fixed.rt`. The
-- 2,048 mantissas from -1,024 up are the indices, and 2^exponent is the spacing.
use Rattle.std.proofs.Common.{◌≡◌, ℕ, ◌+◌, ◌-◌, ◌/◌, ◌%◌, ◌^◌, ◌≤◌, inl, inr, ℤ, pos, negsuc, ◌+ℤ◌, unsigned_abs, ◌∙◌}
use Rattle.std.proofs.Common.{arith}
use Rattle.std.proofs.lemmas.Int.{ints}
use Rattle.std.proofs.lemmas.Bool.{cases_lt}
use Rattle.std.proofs.lemmas.Nat.{pow_pos}
use Rattle.pmb_format.specs.Coding.{IsWord}
use Rattle.pmb_linear.specs.Linear.{IsExponent, exponent, power, linear11_fixed}
use Rattle.pmb_linear.specs.machine.Fields.{Holds, word_at}
use Rattle.pmb_format.specs.Row.{Rises}
use Rattle.pmb_linear.specs.machine.Row.{linear11_row}
use Rattle.pmb_format.proofs.Words.{complement_low, complement_high}
use Rattle.pmb_linear.proofs.Linear11Lemmas.{holds_word}
use Rattle.pmb_format.proofs.OneNearest.{IsSeparated}
use Rattle.pmb_format.proofs.EvenRows.{sum-product, rises_separated}

-- the field of an exponent
field_of_exponent : (k : ℕ) (e : ℤ) → IsWord k → exponent k ≡ e → (unsigned_abs (e +ℤ pos 16) + 16) % 2 ^ 5 ≡ k / 2 ^ 11
field_of_exponent k e code same =
    elim (cases_lt (k / 2 ^ 11) 16) [
      | inl low ↦ let is = complement_low 5 (k / 2 ^ 11) low in omega (arith, ints, is, same)
      | inr high ↦ let is = complement_high 5 (k / 2 ^ 11) high in omega (arith, ints, is, same)
    ]

module _ (e : ℤ) (fits : IsExponent e) where
  power_fits : unsigned_abs (e +ℤ pos 16) ≤ 31
  power_fits = omega (arith, ints, fits)

  holds : (i : ℕ) → i ≤ 2 ^ 11 - 1 → Holds (word_at (unsigned_abs (e +ℤ pos 16)) i) (negsuc 1023 +ℤ pos i)
      (unsigned_abs (e +ℤ pos 16))
  holds i inside = holds_word i (unsigned_abs (e +ℤ pos 16)) (omega arith) power_fits

  pub rises-linear11_fixed : Rises (linear11_fixed e) (linear11_row e)
  rises-linear11_fixed = record {
    positive = omega arith;
    spaced = pow_pos _;
    written = λ i inside. let h = holds i inside in ((h.is_code, omega (arith, ints, h.exponent_is, fits)), tt);
    value = λ i inside. let h = holds i inside in h.value_is ∙ sum-product (negsuc 1023) i (power e);
    parity = λ i inside. omega arith;
    index = λ k code. ((k + 1024) % 2 ^ 11, omega arith, omega (arith, field_of_exponent k e code.0 code.1));
  }

  pub IsSeparated-linear11_fixed : IsSeparated (linear11_fixed e)
  IsSeparated-linear11_fixed = rises_separated (linear11_fixed e) (linear11_row e) rises-linear11_fixed
