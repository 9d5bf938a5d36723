-- The codes of ULINEAR16 and SLINEAR16 are evenly spaced: for `Linear16Codes` and
-- `Linear16EvenlySpaced`. The words count up, unsigned or from -32,768 on, and 2^exponent is the
-- spacing.
use Rattle.std.proofs.Common.{ℕ, inl, ℤ, pos, negsuc, ◌*ℤ◌, ap, ◌∙◌, arith}
use Rattle.std.proofs.lemmas.Nat.{pow_pos}
use Rattle.pmb_format.specs.Row.{Rises}
use Rattle.pmb_format.proofs.OneNearest.{IsSeparated}
use Rattle.pmb_format.proofs.Words.{counts_unsigned, counts_signed}
use Rattle.pmb_format.proofs.EvenRows.{sum-product, row_separated}
use Rattle.pmb_format.specs.Words.{twos_complement}
use Rattle.pmb_linear.specs.Linear.{power, linear16, ulinear16, slinear16}
use Rattle.pmb_format.specs.Words.{CountsUp, signed_at}
use Rattle.pmb_linear.specs.machine.Row.{linear16_row}

-- ---- ULINEAR16 and SLINEAR16

pub rises-linear16 : (w : ℕ → ℤ) (at : ℕ → ℕ) (least e : ℤ) → CountsUp w at least
    → Rises (linear16 w e) (linear16_row at least e)
rises-linear16 w at least e counts = record {
  positive = omega arith;
  spaced = pow_pos _;
  written = λ i inside. (counts.word i (omega arith), tt);
  value = λ i inside. ap (λ z. z *ℤ pos (power e)) (counts.number_is i (omega arith)) ∙ sum-product least i (power e);
  parity = λ i inside. counts.parity i (omega arith);
  index = λ k code. let j = counts.index k code in (j.0, omega (arith, j.1), j.2);
}

-- ---- the laws of each

pub IsSeparated-linear16 : (w : ℕ → ℤ) (at : ℕ → ℕ) (least e : ℤ) → CountsUp w at least → IsSeparated (linear16 w e)
IsSeparated-linear16 w at least e counts = row_separated (linear16 w e) (linear16_row at least e)
    (inl (rises-linear16 w at least e counts))

pub IsSeparated-ulinear16 : (e : ℤ) → IsSeparated (ulinear16 e)
IsSeparated-ulinear16 e = IsSeparated-linear16 (λ code. pos code) (λ index. index) (pos 0) e counts_unsigned

pub IsSeparated-slinear16 : (e : ℤ) → IsSeparated (slinear16 e)
IsSeparated-slinear16 e = IsSeparated-linear16 (twos_complement 16) signed_at (negsuc 32767) e counts_signed
