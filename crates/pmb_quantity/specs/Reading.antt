-- Which quantity a text spells.
use Rattle.std.specs.Prelude.{ℕ, ◌^◌, pos, Bool, false, ◌==◌, ◌||◌, nat_lt, nat_le, if◌then◌else◌, Option, Some, None}
use Rattle.std.specs.Prelude.{Result, Err, List, [], ◌∷◌, ◌++◌, length, take, drop}
use Rattle.std.specs.Char.{is_ascii_digit}
use Rattle.std.specs.List.{prefix_len, list_all}
use Rattle.std.specs.Str.Parse.{digits_value}
use Rattle.pmb_quantity.specs.declared.quantity.QuantityFault.{QuantityFault}
use Rattle.pmb_quantity.specs.declared.quantity.QuantityFault.TheVariants.{Empty, BadDigit, ZeroDenominator, TooLarge}
use Rattle.pmb_quantity.specs.Character.{minus_sign, decimal_point, slash_mark, zero_digit}
use Rattle.pmb_quantity.specs.Fraction.{Fraction, lowest_terms}
use Rattle.pmb_quantity.specs.Quantity.{fitted, negated}

-- digits before and after a point (none after it where there is no point), or before and after a
-- slash
pub data Numeral : Type 0 where
  point : List ℕ → List ℕ → Numeral
  slash : List ℕ → List ℕ → Numeral

-- one digit or more, and nothing else
abbrev pub are_digits : List ℕ → Bool
are_digits [] = false
are_digits (c ∷ cs) = list_all is_ascii_digit (c ∷ cs)

-- what digits, a mark and digits write
abbrev pub marked : ℕ → List ℕ → List ℕ → Option Numeral
marked mark front back =
    if mark == decimal_point then Some (point front back) else (
    if mark == slash_mark then Some (slash front back) else None)

-- what the first digits of a text and the rest of it write
abbrev pub numeral_parts : List ℕ → List ℕ → Option Numeral
numeral_parts [] rest = None
numeral_parts (d ∷ ds) [] = Some (point (d ∷ ds) [])
numeral_parts (d ∷ ds) (mark ∷ back) = if are_digits back then marked mark (d ∷ ds) back else None

-- what a text without a sign writes
unfoldable pub numeral_of : List ℕ → Option Numeral
numeral_of text =
    let len = prefix_len is_ascii_digit text in
    numeral_parts (take len text) (drop len text)

-- digits without the zeros at their end
abbrev pub with_last : ℕ → List ℕ → List ℕ
with_last d [] = if d == zero_digit then [] else d ∷ []
with_last d (e ∷ es) = d ∷ e ∷ es

abbrev pub without_last_zeros : List ℕ → List ℕ
without_last_zeros [] = []
without_last_zeros (d ∷ ds) = with_last d (without_last_zeros ds)

-- digits around a point: the zeros at the end count for nothing, and at most 24 others are read
unfoldable pub point_value : List ℕ → List ℕ → Result Fraction QuantityFault
point_value front back =
    let kept = without_last_zeros back in
    if nat_lt 24 (length kept) then Err TooLarge else
    fitted (lowest_terms (pos (digits_value 10 (front ++ kept))) (10 ^ length kept))

-- a fraction of two numbers below 2^63
unfoldable pub slash_value : List ℕ → List ℕ → Result Fraction QuantityFault
slash_value front back =
    let n = digits_value 10 front in
    let d = digits_value 10 back in
    if d == 0 then Err ZeroDenominator else (
    if nat_le (2 ^ 63) n || nat_le (2 ^ 63) d then Err TooLarge else
    fitted (lowest_terms (pos n) d))

-- the quantity of a numeral
abbrev pub numeral_value : Option Numeral → Result Fraction QuantityFault
numeral_value None = Err BadDigit
numeral_value (Some (point front back)) = point_value front back
numeral_value (Some (slash front back)) = slash_value front back

-- the quantity that a text spells, or the first fault
unfoldable pub reading : List ℕ → Result Fraction QuantityFault
reading [] = Err Empty
reading (c ∷ cs) =
    if c == minus_sign then negated (numeral_value (numeral_of cs)) else numeral_value (numeral_of (c ∷ cs))
