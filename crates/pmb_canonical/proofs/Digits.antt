-- The table `DIGITS`, computed as a whole: the value of a lower-case hex digit, and 256 for another
-- byte; and the text of a byte, two digits and a space. For `digit_value` and `spelled_byte` of
-- `src/words.rt`. A digit tells its value, so two digits tell their byte; 32 is a space.
use Rattle.std.proofs.Common.{◌≡◌, ℕ, ◌+◌, ◌*◌, ◌/◌, ◌%◌, ◌<◌, Bool, true, ◌==◌, ◌⊎◌, inl, inr, get_or, [], ◌∷◌, refl}
use Rattle.std.proofs.Common.{sym, ap, ◌∙◌, arith}
use Rattle.std.specs.Prelude.{◌||◌, nat_le, nat_lt}
use Rattle.std.proofs.lemmas.Bool.{agree_below, agree_below_at, eqb-true, ltb-true, or_cases}
use Rattle.std.proofs.lemmas.Bool.Decides.{nat_tests}
use Rattle.hex.specs.Hex.{encode_with}
use Rattle.pmb_bus.specs.declared.event.Event.TheVariants.{Byte}
use Rattle.pmb_bus.specs.Event.{canonical_text}
use Rattle.pmb_canonical.specs.Front.{lower_digit}
use Rattle.pmb_canonical.specs.declared.words.TheConstants.{DIGITS}

-- the entry of a byte
abbrev pub entry : ℕ → ℕ
entry byte = get_or DIGITS byte 0

-- ---- the table

-- the test of one entry: it is no value, or the value of the digit in whose place it stands
abbrev spells_right : ℕ → Bool
spells_right byte = nat_le 16 (entry byte) || lower_digit (entry byte) == byte

table_spells_right : agree_below spells_right (λ byte. true) 256 ≡ true
table_spells_right = refl

-- the test of one value: it is the entry of its digit
abbrev reads_right : ℕ → Bool
reads_right value = entry (lower_digit value) == value

table_reads_right : agree_below reads_right (λ value. true) 16 ≡ true
table_reads_right = refl

either : (value : ℕ) (test : Bool) → nat_le 16 value || test ≡ true → value < 16 → test ≡ true
either value test passes small = grind (arith, nat_tests)

-- the digit of an entry that is a value
pub entry_spells : (byte : ℕ) → byte < 256 → entry byte < 16 → lower_digit (entry byte) ≡ byte
entry_spells byte small value =
    let test = agree_below_at spells_right (λ byte. true) 256 byte table_spells_right small in
    eqb-true (lower_digit (entry byte)) byte (either (entry byte) (lower_digit (entry byte) == byte) test value)

-- the entry of a value's digit
pub digit_reads : (value : ℕ) → value < 16 → entry (lower_digit value) ≡ value
digit_reads value small =
    eqb-true (entry (lower_digit value)) value
    (agree_below_at reads_right (λ value. true) 16 value table_reads_right small)

-- the test of one entry: it is a value, or it says that there is none
abbrev is_known : ℕ → Bool
is_known byte = nat_lt (entry byte) 16 || entry byte == 256

table_is_known : agree_below is_known (λ byte. true) 256 ≡ true
table_is_known = refl

known : (value : ℕ) → (nat_lt value 16 ≡ true) ⊎ ((value == 256) ≡ true) → (value < 16) ⊎ (value ≡ 256)
known value (inl small) = inl (ltb-true value 16 small)
known value (inr none) = inr (eqb-true value 256 none)

pub entry_is_known : (byte : ℕ) → byte < 256 → (entry byte < 16) ⊎ (entry byte ≡ 256)
entry_is_known byte small =
    known (entry byte) (or_cases (nat_lt (entry byte) 16) (entry byte == 256)
    (agree_below_at is_known (λ byte. true) 256 byte table_is_known small))

-- a digit's entry
pub value_of : (byte value : ℕ) → value < 16 → lower_digit value ≡ byte → entry byte ≡ value
value_of byte value small same = ap entry (sym same) ∙ digit_reads value small

-- a digit tells its value
pub same_digit : (v w : ℕ) → v < 16 → w < 16 → lower_digit v ≡ lower_digit w → v ≡ w
same_digit v w small other same = sym (digit_reads v small) ∙ ap entry same ∙ digit_reads w other

-- ---- bytes

-- the digits of a byte
pub byte_text : (byte : ℕ) → canonical_text (Byte byte ∷ []) ≡ lower_digit (byte / 16) ∷ lower_digit (byte % 16) ∷ 32
    ∷ []
unfolding encode_with
byte_text byte = refl

-- the byte of two digits
pub spells_byte : (first second space high low : ℕ) → high < 16 → low < 16 → lower_digit high ≡ first
    → lower_digit low ≡ second → space ≡ 32
    → canonical_text (Byte (high * 16 + low) ∷ []) ≡ first ∷ second ∷ space ∷ []
spells_byte first second space high low high_small low_small one two is_space =
    let above : (high * 16 + low) / 16 ≡ high = omega arith in
    let below : (high * 16 + low) % 16 ≡ low = omega arith in
    let left : lower_digit ((high * 16 + low) / 16) ≡ first = ap lower_digit above ∙ one in
    let right : lower_digit ((high * 16 + low) % 16) ≡ second = ap lower_digit below ∙ two in
    byte_text (high * 16 + low) ∙ cc (left, right, is_space)

-- Two values are those of digits.
pub record AreDigits (high : ℕ) (low : ℕ) : Type 0 where
  pub high_small : high < 16
  pub low_small : low < 16

-- where they make a byte
pub are_digits : (high low : ℕ) → (high < 16) ⊎ (high ≡ 256) → (low < 16) ⊎ (low ≡ 256) → high * 16 + low < 256
    → AreDigits high low
are_digits high low (inl above) (inl below) small = record { high_small = above; low_small = below }
are_digits high low (inr none) below small = absurd (omega (arith, none, small))
are_digits high low (inl above) (inr none) small = absurd (omega (arith, none, small))

-- What is spelled so.
pub record IsSpelled (byte : ℕ) (first : ℕ) (second : ℕ) (space : ℕ) : Type 0 where
  pub high : lower_digit (byte / 16) ≡ first
  pub low : lower_digit (byte % 16) ≡ second
  pub high_small : byte / 16 < 16
  pub low_small : byte % 16 < 16
  pub is_space : space ≡ 32

pub spelled : (byte first second space : ℕ) → byte < 256 → canonical_text (Byte byte ∷ []) ≡ first ∷ second ∷ space ∷ []
    → IsSpelled byte first second space
spelled byte first second space small same =
    let text = sym (byte_text byte) ∙ same in
    record { high = cc text; low = cc text; high_small = omega arith; low_small = omega arith; is_space = cc text }

-- of two values
pub whole_byte : (byte high low : ℕ) → high ≡ byte / 16 → low ≡ byte % 16 → high * 16 + low ≡ byte
whole_byte byte high low above below = omega (arith, above, below)

-- two digits tell their byte
pub same_byte : (a b : ℕ) → a < 256 → b < 256 → lower_digit (a / 16) ≡ lower_digit (b / 16)
    → lower_digit (a % 16) ≡ lower_digit (b % 16) → a ≡ b
same_byte a b small other above below =
    let high : a / 16 ≡ b / 16 = same_digit (a / 16) (b / 16) (omega arith) (omega arith) above in
    let low : a % 16 ≡ b % 16 = same_digit (a % 16) (b % 16) (omega arith) (omega arith) below in
    omega arith

-- a letter is no digit
pub no_digit : (value letter : ℕ) → value < 16 → entry letter ≡ 256 → lower_digit value ≡ letter → ⊥
no_digit value letter small none same =
    let reads : entry letter ≡ value = ap entry (sym same) ∙ digit_reads value small in
    omega arith
