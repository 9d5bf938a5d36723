-- The unit of time that the name of a column says: `Time [us]`.
use Rattle.std.specs.Prelude.{ℕ, ◌+◌, ◌||◌, ◌&&◌, nat_le, Bool, true, false, Option, Some, None, if◌then◌else◌}
use Rattle.std.specs.Prelude.{List, [], ◌∷◌, codes}
use Rattle.std.specs.Str.{bytes_eq}
use Rattle.pmb_sample_fields.specs.declared.time.Unit.{Unit}
use Rattle.pmb_sample_fields.specs.declared.time.Unit.TheVariants as unit

-- `A` to `Z`, and these and `a` to `z`
abbrev pub is_capital : ℕ → Bool
is_capital byte = nat_le 65 byte && nat_le byte 90

abbrev pub is_letter : ℕ → Bool
is_letter byte = is_capital byte || (nat_le 97 byte && nat_le byte 122)

abbrev pub small : ℕ → ℕ
small byte = if is_capital byte then byte + 32 else byte

-- the letters with which a text begins, as small ones
abbrev pub letters_at : List ℕ → List ℕ
letters_at [] = []
letters_at (byte ∷ text) = if is_letter byte then small byte ∷ letters_at text else []

abbrev pub begins_letter : List ℕ → Bool
begins_letter [] = false
begins_letter (byte ∷ text) = is_letter byte

-- a unit by its word
abbrev pub unit_named : List ℕ → Option Unit
unit_named word =
    if bytes_eq word (codes "seconds") then Some unit.Seconds else
    if bytes_eq word (codes "ms") || bytes_eq word (codes "milliseconds") then Some unit.Milliseconds else
    if bytes_eq word (codes "us") || bytes_eq word (codes "microseconds") then Some unit.Microseconds else
    if bytes_eq word (codes "ns") || bytes_eq word (codes "nanoseconds") then Some unit.Nanoseconds else None

-- The first word of a text that is a unit's: a word is letters that stand side by side. `is_inside` tells whether the
-- byte in front of the text is a letter.
abbrev pub or_else : Option Unit → Option Unit → Option Unit
or_else (Some u) other = Some u
or_else None other = other

abbrev pub word_begins : Bool → List ℕ → Option Unit
word_begins true text = None
word_begins false text = unit_named (letters_at text)

abbrev pub unit_from : Bool → List ℕ → Option Unit
unit_from is_inside [] = None
unit_from is_inside (byte ∷ text) =
    or_else (word_begins is_inside (byte ∷ text)) (unit_from (is_letter byte) text)

abbrev pub unit_said : List ℕ → Option Unit
unit_said name = unit_from false name
