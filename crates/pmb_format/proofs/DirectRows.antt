-- The codes of DIRECT are evenly spaced: for `DirectEvenlySpaced::spacing`, `DirectCodes::least`
-- and `greatest`. As numbers, without a sign or in two's complement, the words rise one by one, and
-- with them the values where m is positive; where it is negative they fall.
use Rattle.std.proofs.Common.{◌≡◌, ◌≢◌, ℕ, zero, suc, ◌-◌, ◌^◌, ◌≤◌, inl, inr, ℤ, pos, negsuc, neg_ℤ, ◌*ℤ◌, ◌<ℤ◌, ◌≤ℤ◌}
use Rattle.std.proofs.Common.{Bool, true, false, refl, ap, ◌∙◌, arith}
use Rattle.std.proofs.lemmas.Int.{ints}
use Rattle.std.proofs.Math.IntN.{neg_ℤ-neg_ℤ}
use Rattle.pmb_coefficients.specs.Coefficients.{Coefficients}
use Rattle.pmb_format.specs.Coding.{Coding, IsWord}
use Rattle.pmb_format.specs.Row.{Rises, IsRow, IsLeast, IsGreatest, mirrored}
use Rattle.pmb_format.proofs.Rounded.{at}
use Rattle.pmb_format.proofs.OneNearest.{IsSeparated}
use Rattle.pmb_format.proofs.EvenRows.{sum-product, row_separated, first_is_least, last_is_greatest, first_is_greatest}
use Rattle.pmb_format.proofs.EvenRows.{last_is_least}
use Rattle.pmb_format.specs.Words.{CountsUp}
use Rattle.pmb_format.proofs.Scaling.{one-scale, minus_one-scale}
use Rattle.pmb_format.proofs.Words.{counts_signed, counts_unsigned}
use Rattle.pmb_format.specs.Direct.{direct, direct_word, positive_part}
use Rattle.pmb_format.specs.machine.DirectRow.{direct_at, direct_row, least_number}
use Rattle.pmb_format.proofs.DirectLemmas.{ten_positive, denominator_positive, with_slope, unsigned_numerator}

-- the words count up, without a sign and in two's complement
counts : (u : Bool) → CountsUp (direct_word u) (direct_at u) (least_number u)
counts true = counts_unsigned
counts false = counts_signed

module _ (b r : ℤ) (u : Bool) where
  value_at : (m : ℤ) (i : ℕ) → i ≤ 2 ^ 16 - 1 → unsigned_numerator (with_slope m b r u) (direct_at u i)
      ≡ at (direct_row (with_slope m b r u)).first (direct_row (with_slope m b r u)).spacing i
  value_at m i inside =
      let product = ap (λ z. z *ℤ pos (10 ^ positive_part (neg_ℤ r))) ((counts u).number_is i (omega arith))
      ∙ sum-product (least_number u) i (10 ^ positive_part (neg_ℤ r)) in
      omega (arith, ints, product)

  index_of : (k : ℕ) → IsWord k → (i : ℕ) × (i ≤ 2 ^ 16 - 1) × (direct_at u i ≡ k)
  index_of k code = let j = (counts u).index k code in (j.0, omega (arith, j.1), j.2)

  rises_direct : (n : ℕ) → Rises (direct (with_slope (pos (suc n)) b r u)) (direct_row (with_slope (pos (suc n)) b r u))
  rises_direct n = record {
    positive = denominator_positive (pos (suc n)) (positive_part r) (λ none. absurd (omega (arith, ints, none)));
    spaced = ten_positive _;
    written = λ i inside. ((counts u).word i (omega arith), tt);
    value = λ i inside. one-scale (unsigned_numerator (with_slope (pos (suc n)) b r u) (direct_at u i))
        ∙ value_at (pos (suc n)) i inside;
    parity = λ i inside. (counts u).parity i (omega arith);
    index = index_of;
  }

  falls_direct : (n : ℕ) → Rises (mirrored (direct (with_slope (negsuc n) b r u)))
      (direct_row (with_slope (negsuc n) b r u))
  falls_direct n = record {
    positive = denominator_positive (negsuc n) (positive_part r) (λ none. absurd (omega (arith, ints, none)));
    spaced = ten_positive _;
    written = λ i inside. ((counts u).word i (omega arith), tt);
    value = λ i inside. ap neg_ℤ (minus_one-scale (unsigned_numerator (with_slope (negsuc n) b r u) (direct_at u i)))
        ∙ neg_ℤ-neg_ℤ (unsigned_numerator (with_slope (negsuc n) b r u) (direct_at u i)) ∙ value_at (negsuc n) i inside;
    parity = λ i inside. (counts u).parity i (omega arith);
    index = index_of;
  }

  is_row : (m : ℤ) → m ≢ pos 0 → IsRow (direct (with_slope m b r u)) (direct_row (with_slope m b r u))
  is_row (pos zero) slope = absurd (slope refl)
  is_row (pos (suc n)) slope = inl (rises_direct n)
  is_row (negsuc n) slope = inr (falls_direct n)

pub IsRow-direct : (d : Coefficients) → d.m ≢ pos 0 → IsRow (direct d) (direct_row d)
IsRow-direct d slope = is_row d.b d.r d.unsigned d.m slope

-- its ends: the first word and the last, the other way round where m is negative
pub record Ends (f : Coding) (least greatest : ℕ) : Type 0 where
  pub is_least : IsLeast f least
  pub is_greatest : IsGreatest f greatest

module _ (b r : ℤ) (u : Bool) where
  ends_rising : (m : ℤ) → m ≢ pos 0 → pos 0 ≤ℤ m
      → Ends (direct (with_slope m b r u)) (direct_at u 0) (direct_at u 65535)
  ends_rising (pos zero) slope rising = absurd (slope refl)
  ends_rising (pos (suc n)) slope rising =
      let f = direct (with_slope (pos (suc n)) b r u) in
      let row = direct_row (with_slope (pos (suc n)) b r u) in
      let rises = rises_direct b r u n in
      record { is_least = first_is_least f row rises; is_greatest = last_is_greatest f row rises }
  ends_rising (negsuc n) slope rising = absurd (omega (arith, ints))

  ends_falling : (m : ℤ) → m <ℤ pos 0 → Ends (direct (with_slope m b r u)) (direct_at u 65535) (direct_at u 0)
  ends_falling (pos n) falling = absurd (omega (arith, ints))
  ends_falling (negsuc n) falling =
      let f = direct (with_slope (negsuc n) b r u) in
      let row = direct_row (with_slope (negsuc n) b r u) in
      let falls = falls_direct b r u n in
      record { is_least = last_is_least f row falls; is_greatest = first_is_greatest f row falls }

pub ends_of_rising : (d : Coefficients) → d.m ≢ pos 0 → pos 0 ≤ℤ d.m
    → Ends (direct d) (direct_at d.unsigned 0) (direct_at d.unsigned 65535)
ends_of_rising d slope rising = ends_rising d.b d.r d.unsigned d.m slope rising

pub ends_of_falling : (d : Coefficients) → d.m <ℤ pos 0
    → Ends (direct d) (direct_at d.unsigned 65535) (direct_at d.unsigned 0)
ends_of_falling d falling = ends_falling d.b d.r d.unsigned d.m falling

pub IsSeparated-direct : (d : Coefficients) → d.m ≢ pos 0 → IsSeparated (direct d)
IsSeparated-direct d slope = row_separated (direct d) (direct_row d) (IsRow-direct d slope)
