-- The codes of DIRECT, in the order of their words as numbers.
use Rattle.std.specs.Prelude.{ℕ, ◌-◌, ◌^◌, ℤ, pos, negsuc, neg_ℤ, ◌-ℤ◌, ◌*ℤ◌, Bool, true, false}
use Rattle.pmb_coefficients.specs.Coefficients.{Coefficients}
use Rattle.pmb_format.specs.Row.{Row}
use Rattle.pmb_format.specs.Words.{signed_at}
use Rattle.pmb_format.specs.Direct.{positive_part}

-- the least number that a word is
abbrev pub least_number : Bool → ℤ
least_number true = pos 0
least_number false = negsuc 32767

-- the word of an index, from that number upwards
abbrev pub direct_at : Bool → ℕ → ℕ
direct_at true i = i
direct_at false i = signed_at i

-- DIRECT's words from their least number up, without the sign of m
abbrev pub direct_row : Coefficients → Row
direct_row d =
    let up = 10 ^ positive_part d.r in
    let down = 10 ^ positive_part (neg_ℤ d.r) in
    record {
      first = least_number d.unsigned *ℤ pos down -ℤ d.b *ℤ pos up;
      spacing = down;
      last = 2 ^ 16 - 1;
      code_at = direct_at d.unsigned;
    }
