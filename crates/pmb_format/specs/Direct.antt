-- DIRECT (PMBus Part II revision 1.3, section 7.4): X = (Y * 10^-R - b) / m, where a word Y has no
-- sign or is in two's complement.
use Rattle.std.specs.Prelude.{ℕ, zero, suc, ◌*◌, ◌^◌, ℤ, pos, negsuc, ◌-ℤ◌, ◌*ℤ◌}
use Rattle.std.specs.Prelude.{unsigned_abs, neg_ℤ, Bool, true, false}
pub use Rattle.pmb_coefficients.specs.Coefficients.{Coefficients}
use Rattle.pmb_format.specs.Coding.{Coding, IsWord}
use Rattle.pmb_format.specs.Words.{twos_complement}
use Rattle.pmb_format.specs.Coding.{IsAnyCode}

-- z, or 0 where it is negative
abbrev pub positive_part : ℤ → ℕ
positive_part (pos n) = n
positive_part (negsuc _) = 0

-- the sign of a number, as 1, 0 or -1
abbrev pub sign_of : ℤ → ℤ
sign_of (pos zero) = pos 0
sign_of (pos (suc _)) = pos 1
sign_of (negsuc _) = negsuc 0

-- the number Y that a word is, without a sign or in two's complement
abbrev pub direct_word : Bool → ℕ → ℤ
direct_word true code = pos code
direct_word false code = twos_complement 16 code

-- sign(m) * (Y * 10^max(-R, 0) - b * 10^max(R, 0)), over abs(m) * 10^max(R, 0)
abbrev pub direct : Coefficients → Coding
direct d =
    let up = 10 ^ positive_part d.r in
    let down = 10 ^ positive_part (neg_ℤ d.r) in
    record {
      IsCode = IsWord;
      numerator = λ code. sign_of d.m *ℤ (direct_word d.unsigned code *ℤ pos down -ℤ d.b *ℤ pos up);
      denominator = unsigned_abs d.m * up;
      IsCanonical = IsAnyCode;
    }
