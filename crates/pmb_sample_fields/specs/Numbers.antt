-- Numbers of samples, as programs write them: sign, digits, point, digits, `e` and an exponent. At most 64 bytes.
use Rattle.std.specs.Prelude.{ℕ, ◌==◌, ◌||◌, ◌&&◌, Bool, false, Option, Some, None, if◌then◌else◌, nat_lt}
use Rattle.std.specs.Prelude.{List, [], ◌∷◌, length}
use Rattle.pmb_words.specs.Numbers.{decimal_of, is_digit}

-- ---- digits

-- the digits with which a text begins
abbrev pub digits_at : List ℕ → List ℕ
digits_at [] = []
digits_at (byte ∷ text) = if is_digit byte then byte ∷ digits_at text else []

-- what follows them
abbrev pub behind_digits : List ℕ → List ℕ
behind_digits [] = []
behind_digits (byte ∷ text) = if is_digit byte then behind_digits text else byte ∷ text

-- ---- signs

abbrev pub minus : ℕ
minus = 45

abbrev pub plus : ℕ
plus = 43

abbrev pub has_minus : List ℕ → Bool
has_minus [] = false
has_minus (byte ∷ text) = byte == minus

abbrev pub behind_sign : List ℕ → List ℕ
behind_sign [] = []
behind_sign (byte ∷ text) = if byte == minus || byte == plus then text else byte ∷ text

-- ---- the digits behind a point

abbrev pub point : ℕ
point = 46

abbrev pub fraction_at : List ℕ → List ℕ
fraction_at [] = []
fraction_at (byte ∷ text) = if byte == point then digits_at text else []

abbrev pub behind_fraction : List ℕ → List ℕ
behind_fraction [] = []
behind_fraction (byte ∷ text) = if byte == point then behind_digits text else byte ∷ text

-- ---- the exponent

-- ten to this number, or one divided by that
pub record Exponent : Type 0 where
  pub is_negative : Bool
  pub size : ℕ

abbrev pub no_exponent : Exponent
no_exponent = record { is_negative = false; size = 0 }

abbrev pub exponent_with : Bool → Option ℕ → Option Exponent
exponent_with is_negative (Some size) = Some (record { is_negative = is_negative; size = size })
exponent_with is_negative None = None

-- `e` in either case
abbrev pub is_e : ℕ → Bool
is_e byte = byte == 101 || byte == 69

-- What follows the digits: nothing, or `e` and a number with or without a sign. One over 2 ^ 64 - 1 counts as this.
abbrev pub exponent_of : List ℕ → Option Exponent
exponent_of [] = Some no_exponent
exponent_of (byte ∷ text) =
    if is_e byte then exponent_with (has_minus text) (decimal_of (behind_sign text)) else None

-- ---- a number

pub record Number : Type 0 where
  pub is_negative : Bool
  -- the digits in front of the point and behind it
  pub whole : List ℕ
  pub fraction : List ℕ
  pub exponent : Exponent

-- there is a digit at least
abbrev pub number_with : Bool → List ℕ → List ℕ → Option Exponent → Option Number
number_with is_negative whole fraction None = None
number_with is_negative whole fraction (Some exponent) =
    if length whole == 0 && length fraction == 0 then None else
    Some (record { is_negative = is_negative; whole = whole; fraction = fraction; exponent = exponent })

-- the number of a text, behind its sign
abbrev pub number_behind : Bool → List ℕ → Option Number
number_behind is_negative text =
    number_with is_negative (digits_at text) (fraction_at (behind_digits text))
    (exponent_of (behind_fraction (behind_digits text)))

abbrev pub most_bytes : ℕ
most_bytes = 64

abbrev pub number_of : List ℕ → Option Number
number_of text = if nat_lt most_bytes (length text) then None else number_behind (has_minus text) (behind_sign text)
