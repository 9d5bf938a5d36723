-- The colours of the names of status bits, which were read set.
use Rattle.std.specs.Prelude.{ℕ, ◌&&◌, ◌||◌, ◌==◌, Bool, false, not, nat_eq, nat_le, if◌then◌else◌, Option, Some, None, List}
use Rattle.std.specs.Prelude.{[], ◌∷◌, codes, drop, length}
use Rattle.std.specs.List.{ends_with, list_all, list_any, starts_with}
use Rattle.std.specs.Str.{bytes_eq}
use Rattle.pmb_colour.specs.declared.colour.Colour.{Colour}
use Rattle.pmb_colour.specs.declared.colour.Colour.TheVariants.{Red, Yellow}

abbrev pub is_capital : ℕ → Bool
is_capital byte = nat_le 0x41 byte && nat_le byte 0x5a

abbrev pub is_digit : ℕ → Bool
is_digit byte = nat_le 0x30 byte && nat_le byte 0x39

-- a byte of a name that a bit may have
abbrev pub is_name_byte : ℕ → Bool
is_name_byte byte = is_capital byte || is_digit byte || byte == 0x5f

-- A name of a bit. One of digits alone is none here, since numbers and bytes look like it.
unfoldable pub is_name : List ℕ → Bool
is_name word = list_all is_name_byte word && list_any is_capital word

-- what stands for a bit without a name: `bit2`
unfoldable pub is_number_of_bit : List ℕ → Bool
is_number_of_bit word = starts_with nat_eq word (codes "bit") && nat_le 4 (length word) && list_all is_digit (drop 3 word)

unfoldable pub is_bit : List ℕ → Bool
is_bit word = is_name word || is_number_of_bit word

-- whether a text has a part
abbrev pub has_part : List ℕ → List ℕ → Bool
has_part part [] = false
has_part part (byte ∷ text) = starts_with nat_eq (byte ∷ text) part || has_part part text

-- a name of a warning, as `OT_WARN`, `IOUT_WARN2` and `VIN_LOW_WARNING`
abbrev pub is_warning : List ℕ → Bool
is_warning word = has_part (codes "WARN") word

-- the names of bits that tell of no fault, but for those of warnings
unfoldable pub is_harmless : List ℕ → Bool
is_harmless word =
    bytes_eq word (codes "BUSY") || bytes_eq word (codes "OFF") || bytes_eq word (codes "POWER_GOOD_N")
    || ends_with nat_eq word (codes "_OVERRIDE")

-- a warning is yellow, a fault red; a word that is no name of a bit has no colour
abbrev pub bit_colour : List ℕ → Option Colour
bit_colour word =
    if not (is_bit word) then None else
    if is_warning word then Some Yellow else
    if is_harmless word then None else
    Some Red
