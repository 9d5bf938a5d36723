-- Numbers, as they are written in a recording.
use Rattle.std.specs.Prelude.{ℕ, ◌+◌, ◌-◌, ◌*◌, ◌^◌, ◌&&◌, min, nat_le, nat_lt, Bool, Option, Some, None, if◌then◌else◌}
use Rattle.std.specs.Prelude.{List, [], ◌∷◌}
use Rattle.hex.specs.Hex.{hex_digit_value}

-- the greatest number that is told from others: a greater one counts as this
abbrev pub greatest : ℕ
greatest = 2 ^ 64 - 1

abbrev pub is_digit : ℕ → Bool
is_digit byte = nat_le 48 byte && nat_le byte 57

-- the number of the digits so far, and of those that follow
abbrev pub decimal_from : ℕ → List ℕ → Option ℕ
decimal_from number [] = Some number
decimal_from number (digit ∷ digits) =
    if is_digit digit then decimal_from (min (number * 10 + (digit - 48)) greatest) digits else None

-- the number that a text writes with one decimal digit or more
abbrev pub decimal_of : List ℕ → Option ℕ
decimal_of [] = None
decimal_of (digit ∷ digits) = decimal_from 0 (digit ∷ digits)

-- a number with a digit behind it, where it fits
abbrev pub if_fits : ℕ → Option ℕ
if_fits number = if nat_lt greatest number then None else Some number

abbrev pub with_value : Option ℕ → ℕ → Option ℕ
with_value (Some number) value = if_fits (number * 10 + value)
with_value None value = None

-- the number of decimal digits, where it is not over the greatest
abbrev pub fitting_from : Option ℕ → List ℕ → Option ℕ
fitting_from number [] = number
fitting_from number (digit ∷ digits) =
    if is_digit digit then fitting_from (with_value number (digit - 48)) digits else None

abbrev pub fitting_of : List ℕ → Option ℕ
fitting_of [] = None
fitting_of (digit ∷ digits) = fitting_from (Some 0) (digit ∷ digits)

-- ---- hexadecimal digits, of either case

-- a number with a digit behind it
abbrev pub with_digit : Option ℕ → Option ℕ → Option ℕ
with_digit (Some number) (Some value) = Some (number * 16 + value)
with_digit (Some number) None = None
with_digit None value = None

-- the number of the digits so far, and of those that follow
abbrev pub hexadecimal_from : Option ℕ → List ℕ → Option ℕ
hexadecimal_from number [] = number
hexadecimal_from number (digit ∷ digits) = hexadecimal_from (with_digit number (hex_digit_value digit)) digits

-- the number that hexadecimal digits write
abbrev pub hexadecimal_of : List ℕ → Option ℕ
hexadecimal_of digits = hexadecimal_from (Some 0) digits

-- the byte of two of them
abbrev pub byte_of : ℕ → ℕ → Option ℕ
byte_of high low = with_digit (hex_digit_value high) (hex_digit_value low)
