-- The table of byte classes, `CLASSES`, computed as a whole and read for each byte. For `digit` and
-- `is_separator`. A class below 16 is a digit's value, 16 is that of a separator, 255 of any other
-- byte.
use Rattle.std.proofs.Common.{◌≡◌, ℕ, ◌<◌, ◌≤◌, Bool, true, false, ◌==◌, Option, Some, None, get_or, refl, sym, ap}
use Rattle.std.proofs.Common.{arith}
use Rattle.std.specs.Prelude.{if◌then◌else◌, unwrap_or}
use Rattle.std.proofs.lemmas.Bool.{agree_below, agree_below_at, eqb-true}
use Rattle.hex.specs.Hex.{hex_digit_value}
use Rattle.pmb_bus.specs.declared.alphabet.TheConstants.{CLASSES, SP}
use Rattle.pmb_bus.specs.Text.{is_separator}

-- what the class of a byte is to be
abbrev class_of : ℕ → ℕ
class_of b = unwrap_or (hex_digit_value b) (if is_separator b then 16 else 255)

-- the test of one byte's place in the table, which computes
abbrev reads_right : ℕ → Bool
reads_right b = class_of b == get_or CLASSES b 0

-- the whole table, computed
table_reads_right : agree_below reads_right (λ b. true) 256 ≡ true
table_reads_right = refl

-- the class of each byte
place_of : (b : ℕ) → b < 256 → class_of b ≡ get_or CLASSES b 0
place_of b byte =
    eqb-true (class_of b) (get_or CLASSES b 0) (agree_below_at reads_right (λ b. true) 256 b table_reads_right byte)

-- a class that is no digit's
other_class : (separates : Bool) → 16 ≤ (if separates then 16 else 255)
other_class separates = elim separates as
    (λ v. 16 ≤ (if v then 16 else 255)) [ true ↦ omega arith | false ↦ omega arith ]

-- a class below 16 is a value
is_there : (o : Option ℕ) (other class : ℕ) → 16 ≤ other → unwrap_or o other ≡ class → class < 16 → Some class ≡ o
is_there (Some v) other class big same small = ap Some (sym same)
is_there None other class big same small = absurd (omega arith)

-- a class of 16 or more is none, where each value is less
is_none : (o : Option ℕ) (other class : ℕ) → ((v : ℕ) → o ≡ Some v → v < 16) → unwrap_or o other ≡ class → 16 ≤ class
    → None ≡ o
is_none (Some v) other class small same big = let below : v < 16 = small v refl in absurd (omega arith)
is_none None other class small same big = refl

-- a digit has a value below 16
digit_value_small : (b v : ℕ) → hex_digit_value b ≡ Some v → v < 16
digit_value_small b v digit = grind (arith)

-- a digit, by the table
pub digit_read : (b : ℕ) → b < 256 → get_or CLASSES b 0 < 16 → Some (get_or CLASSES b 0) ≡ hex_digit_value b
digit_read b byte small =
    is_there (hex_digit_value b) (if is_separator b then 16 else 255) (get_or CLASSES b 0)
    (other_class (is_separator b)) (place_of b byte) small

-- no digit, by the table
pub digit_refused : (b : ℕ) → b < 256 → 16 ≤ get_or CLASSES b 0 → None ≡ hex_digit_value b
digit_refused b byte big =
    is_none (hex_digit_value b) (if is_separator b then 16 else 255) (get_or CLASSES b 0) (digit_value_small b)
    (place_of b byte) big

-- whether a byte's class is that of a separator, computed over the table
separators_read_right : agree_below (λ b. get_or CLASSES b 0 == SP) is_separator 256 ≡ true
separators_read_right = refl

-- a separator, by the table
pub separator_read : (b : ℕ) → b < 256 → (get_or CLASSES b 0 == SP) ≡ is_separator b
separator_read b byte = agree_below_at (λ b. get_or CLASSES b 0 == SP) is_separator 256 b separators_read_right byte
