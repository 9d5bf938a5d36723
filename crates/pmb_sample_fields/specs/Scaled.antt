-- What a number says, exactly, in tenths, hundredths and so on of its unit.
use Rattle.std.specs.Prelude.{ℕ, ◌+◌, ◌-◌, ◌*◌, ◌/◌, ◌%◌, ◌^◌, ◌==◌, Bool, true, false, not, min, Option}
use Rattle.std.specs.Prelude.{if◌then◌else◌, option_map, List, [], ◌∷◌, ◌++◌, length}
use Rattle.pmb_sample_fields.specs.Numbers.{Exponent, Number, number_of}
use Rattle.pmb_sample_fields.specs.declared.scaled.Scaled.{Scaled}

-- the natural number of some digits, behind that of others
abbrev pub value_from : ℕ → List ℕ → ℕ
value_from number [] = number
value_from number (digit ∷ digits) = value_from (number * 10 + (digit - 48)) digits

-- of all digits of a number, without its point
abbrev pub value : Number → ℕ
value n = value_from 0 (n.whole ++ n.fraction)

-- ---- powers of ten

-- by how many it is multiplied
abbrev pub up : Exponent → ℕ
up e = if e.is_negative then 0 else e.size

-- by how many it is divided
abbrev pub down : Exponent → ℕ
down e = if e.is_negative then e.size else 0

-- ---- a number, times so many tens

-- 10 ^ 15 units are a second, or a volt: none is over 10 ^ 9 of these
abbrev pub most : ℕ
most = 10 ^ 24

-- What a number says without its sign, times 10 ^ places, is this divided by that.
abbrev pub above : ℕ → Number → ℕ
above places n = value n * 10 ^ (places + up n.exponent)

abbrev pub below : Number → ℕ
below n = 10 ^ (length n.fraction + down n.exponent)

-- its whole part, at most 10 ^ 24; and whether there is more behind it
abbrev pub scaled : ℕ → Number → Scaled
scaled places n = record {
  is_negative = n.is_negative;
  whole = min (above places n / below n) most;
  has_rest = not (above places n % below n == 0);
}

-- that of a text, where it is a number
abbrev pub scaled_of : ℕ → List ℕ → Option Scaled
scaled_of places text = option_map (scaled places) (number_of text)

-- ---- with its sign, from -10 ^ 9 of a unit on

abbrev pub one_if : Bool → ℕ
one_if true = 1
one_if false = 0

-- rounded down: 0 is 10 ^ 24, and below it the whole part is one more where there is more behind it
abbrev pub from_least : Scaled → ℕ
from_least s = if s.is_negative then most - (s.whole + one_if s.has_rest) else most + s.whole
