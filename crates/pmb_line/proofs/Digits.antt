-- The table `DIGITS`, computed as a whole for all 256 bytes: it gives a hex digit's value, and 255
-- for other bytes. For `digit` of `src/token.rt`, and for SomeReading, where a byte that two digits
-- spell is below 256.
use Rattle.std.proofs.Common.{◌≡◌, ℕ, ◌<◌, ◌≤◌, Bool, true, ◌==◌, Option, Some, None, get_or, refl, sym, ap, arith}
use Rattle.std.specs.Prelude.{unwrap_or}
use Rattle.std.proofs.lemmas.Bool.{agree_below, agree_below_at, eqb-true}
use Rattle.hex.specs.Hex.{hex_digit_value}
use Rattle.pmb_line.specs.declared.token.TheConstants.{DIGITS}

-- what stands in the table for a byte
abbrev value_of : ℕ → ℕ
value_of b = unwrap_or (hex_digit_value b) 255

-- the test of one byte's place in the table, which computes
abbrev reads_right : ℕ → Bool
reads_right b = value_of b == get_or DIGITS b 0

table_reads_right : agree_below reads_right (λ b. true) 256 ≡ true
table_reads_right = refl

place_of : (b : ℕ) → b < 256 → value_of b ≡ get_or DIGITS b 0
place_of b byte =
    eqb-true (value_of b) (get_or DIGITS b 0) (agree_below_at reads_right (λ b. true) 256 b table_reads_right byte)

is_there : (o : Option ℕ) (value : ℕ) → unwrap_or o 255 ≡ value → value < 16 → Some value ≡ o
is_there (Some v) value same small = ap Some (sym same)
is_there None value same small = absurd (omega arith)

is_none : (o : Option ℕ) (value : ℕ) → ((v : ℕ) → o ≡ Some v → v < 16) → unwrap_or o 255 ≡ value → 16 ≤ value → None ≡ o
is_none (Some v) value small same big = let below : v < 16 = small v refl in absurd (omega arith)
is_none None value small same big = refl

pub digit_value_small : (b v : ℕ) → hex_digit_value b ≡ Some v → v < 16
digit_value_small b v digit = grind (arith)

-- a digit, by the table
pub digit_read : (b : ℕ) → b < 256 → get_or DIGITS b 0 < 16 → Some (get_or DIGITS b 0) ≡ hex_digit_value b
digit_read b byte small = is_there (hex_digit_value b) (get_or DIGITS b 0) (place_of b byte) small

-- no digit, by the table
pub digit_refused : (b : ℕ) → b < 256 → 16 ≤ get_or DIGITS b 0 → None ≡ hex_digit_value b
digit_refused b byte big = is_none (hex_digit_value b) (get_or DIGITS b 0) (digit_value_small b) (place_of b byte) big
