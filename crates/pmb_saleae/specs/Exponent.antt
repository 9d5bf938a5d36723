-- Decimal numbers, and those with an exponent, which are told without it: `1.28e-04` is `0.000128`.
use Rattle.std.specs.Prelude.{ℕ, ◌-◌, ◌==◌, ◌&&◌, ◌||◌, true, false, Bool, Option, Some, None, is_some, nat_le}
use Rattle.std.specs.Prelude.{if◌then◌else◌, List, [], ◌∷◌, ◌++◌, codes, drop, length, replicate, slice_index, take}
use Rattle.pmb_words.specs.Numbers.{decimal_of}
use Rattle.pmb_words.specs.Parts.{Parted, parted}

abbrev pub point : ℕ
point = slice_index (codes ".") 0

abbrev pub minus : ℕ
minus = slice_index (codes "-") 0

abbrev pub digit_0 : ℕ
digit_0 = slice_index (codes "0") 0

-- ---- decimal numbers

-- the sign of a number, if it has one, and what follows
abbrev pub is_sign : ℕ → Bool
is_sign byte = byte == minus || byte == slice_index (codes "+") 0

abbrev pub sign_of : List ℕ → List ℕ
sign_of [] = []
sign_of (byte ∷ text) = if is_sign byte then byte ∷ [] else []

abbrev pub behind_sign : List ℕ → List ℕ
behind_sign [] = []
behind_sign (byte ∷ text) = if is_sign byte then text else byte ∷ text

abbrev pub are_digits : List ℕ → Bool
are_digits text = is_some (decimal_of text)

abbrev pub are_digits_if : Option (List ℕ) → Bool
are_digits_if (Some text) = are_digits text
are_digits_if None = true

-- digits, and a point and digits or not
abbrev pub is_decimal : Parted → Bool
is_decimal parts = are_digits parts.front && are_digits_if parts.rest

-- ---- the point is moved

-- the digits of a number in front of its point, and behind it
pub record Digits : Type 0 where
  pub whole : List ℕ
  pub part : List ℕ

abbrev pub digits_or_none : Option (List ℕ) → List ℕ
digits_or_none (Some text) = text
digits_or_none None = []

abbrev pub digits_of : Parted → Digits
digits_of parts = record { whole = parts.front; part = digits_or_none parts.rest }

abbrev pub zeros : ℕ → List ℕ
zeros count = replicate count digit_0

-- So many digits get behind the point: zeros, where there are too few.
abbrev pub to_left : ℕ → Digits → Digits
to_left places d = record {
  whole = take (length d.whole - places) d.whole;
  part = zeros (places - length d.whole) ++ (drop (length d.whole - places) d.whole ++ d.part);
}

-- So many get in front of it.
abbrev pub to_right : ℕ → Digits → Digits
to_right places d = record {
  whole = d.whole ++ (take places d.part ++ zeros (places - length d.part));
  part = drop places d.part;
}

abbrev pub moved : Bool → ℕ → Digits → Digits
moved true places d = to_left places d
moved false places d = to_right places d

-- ---- as it is written

-- without zeros in front, but for one where there is nothing else
abbrev pub without_zeros : List ℕ → List ℕ
without_zeros [] = []
without_zeros (digit ∷ digits) = if digit == digit_0 then without_zeros digits else digit ∷ digits

abbrev pub or_zero : List ℕ → List ℕ
or_zero [] = codes "0"
or_zero (digit ∷ digits) = digit ∷ digits

-- with a point, if digits follow
abbrev pub behind_point : List ℕ → List ℕ
behind_point [] = []
behind_point (digit ∷ digits) = codes "." ++ (digit ∷ digits)

abbrev pub written : List ℕ → Digits → List ℕ
written sign d = sign ++ (or_zero (without_zeros d.whole) ++ behind_point d.part)

-- ---- a number with an exponent

-- It stands behind the first `e`, or the first `E` where there is no `e`.
abbrev pub parted_at_e : List ℕ → Parted
parted_at_e text =
    if is_some (parted 101 text).rest then parted 101 text else parted 69 text

-- digits behind a sign, or without one
abbrev pub places_of : List ℕ → Option ℕ
places_of exponent = decimal_of (behind_sign exponent)

abbrev pub has_minus : List ℕ → Bool
has_minus [] = false
has_minus (byte ∷ text) = byte == minus

-- The point moves by 40 places at most, over 40 digits at most.
abbrev pub most : ℕ
most = 40

abbrev pub is_short : ℕ → Digits → Bool
is_short places d = nat_le places most && (nat_le (length d.whole) most && nat_le (length d.part) most)

abbrev pub written_by : List ℕ → Parted → List ℕ → Option ℕ → List ℕ
written_by sign parts exponent (Some places) =
    if is_decimal parts && is_short places (digits_of parts) then
    written sign (moved (has_minus exponent) places (digits_of parts)) else []
written_by sign parts exponent None = []

abbrev pub written_with : List ℕ → Option (List ℕ) → List ℕ
written_with number (Some exponent) =
    written_by (sign_of number) (parted point (behind_sign number)) exponent (places_of exponent)
written_with number None = []

-- The same number without its exponent: nothing where a text is no such number, or one that is too long.
abbrev pub written_out : List ℕ → List ℕ
written_out text = written_with (parted_at_e text).front (parted_at_e text).rest
