-- How a FORMAT is spelled, and what it names.
use Rattle.std.specs.Prelude.{◌≡◌, ℕ, ◌+◌, ◌*◌, Bool, true, false, Some, None, Result, Ok, Err, ℤ, pos, negsuc, neg_ℤ, List}
use Rattle.std.specs.Prelude.{[], ◌∷◌, ◌++◌, codes, FitsSigned, if◌then◌else◌, ◌==◌, nat_lt}
use Rattle.std.specs.Int.{w8, w16}
use Rattle.std.specs.Str.Parse.{IsNumeral, digits_value}
use Rattle.hex.specs.Hex.{hex_digit_value}
use Rattle.pmb_value.specs.Vout.{format_of}
use Rattle.pmb_value.specs.declared.vout.ModeFault.{ModeFault}
use Rattle.pmb_value.specs.declared.vout.ModeFault.TheVariants as mode
use Rattle.pmb_value.specs.declared.vout.VoutFormat.{VoutFormat}
use Rattle.pmb_value.specs.declared.vout.VoutFormat.TheVariants.{Unsigned, Signed, Direct}
use Rattle.pmb_convert.specs.declared.format_fault.FormatFault.{FormatFault}
use Rattle.pmb_convert.specs.declared.format_fault.FormatFault.TheVariants.{BadFormat, BadExponent, ZeroSlope, BadScale}
use Rattle.pmb_convert.specs.declared.format_fault.FormatFault.TheVariants.{Relative, Vid, Ieee, NoCoefficients}
use Rattle.pmb_value.specs.declared.number_format.NumberFormat.{NumberFormat}
use Rattle.pmb_value.specs.declared.number_format.NumberFormat.TheVariants as number
use Rattle.pmb_vid.specs.Names.{table_name}
use Rattle.pmb_vid.specs.declared.table.VidTable.{VidTable}

-- ---- what a FORMAT says: a kind, and its numbers

pub data Saying : Type 0 where
  linear11 : Saying
  linear11_fixed : ℤ → Saying
  ulinear16 : ℤ → Saying
  slinear16 : ℤ → Saying
  vout : ℕ → Saying
  half : Saying
  vid : VidTable → Saying
  -- DIRECT, whose words count without a sign or in two's complement
  direct : (unsigned : Bool) → ℤ → ℤ → ℤ → Saying

-- ---- its spelling

-- a whole number in decimal: one digit or more, with a `-` before them or not
pub data WritesInteger (text : List ℕ) (n : ℤ) : Type 0 where
  plain : IsNumeral 10 text → n ≡ pos (digits_value 10 text) → WritesInteger text n
  minus : (digits : List ℕ) → text ≡ codes "-" ++ digits → IsNumeral 10 digits
      → n ≡ neg_ℤ (pos (digits_value 10 digits)) → WritesInteger text n

-- one from -128 to 127
pub record WritesByte (text : List ℕ) (n : ℤ) : Type 0 where
  pub writes : WritesInteger text n
  pub fits : FitsSigned w8 n

-- one from -32768 to 32767
pub record WritesWord (text : List ℕ) (n : ℤ) : Type 0 where
  pub writes : WritesInteger text n
  pub fits : FitsSigned w16 n

-- two hexadecimal digits, of either case
pub record WritesMode (text : List ℕ) (mode : ℕ) : Type 0 where
  pub high : ℕ
  pub low : ℕ
  pub high_value : ℕ
  pub low_value : ℕ
  pub two : text ≡ high ∷ low ∷ []
  pub high_is : hex_digit_value high ≡ Some high_value
  pub low_is : hex_digit_value low ≡ Some low_value
  pub value : mode ≡ high_value * 16 + low_value

-- the word of DIRECT, for words without a sign and in two's complement
abbrev pub direct_kind : Bool → List ℕ
direct_kind true = codes "udirect:"
direct_kind false = codes "direct:"

-- which texts spell it
abbrev pub SpellsFormat : List ℕ → Saying → Type 0
SpellsFormat text linear11 = text ≡ codes "linear11"
SpellsFormat text (linear11_fixed exponent) = (E : List ℕ) × (text ≡ codes "linear11:" ++ E) × WritesByte E exponent
SpellsFormat text (ulinear16 exponent) = (E : List ℕ) × (text ≡ codes "ulinear16:" ++ E) × WritesByte E exponent
SpellsFormat text (slinear16 exponent) = (E : List ℕ) × (text ≡ codes "slinear16:" ++ E) × WritesByte E exponent
SpellsFormat text (vout mode) = (HH : List ℕ) × (text ≡ codes "vout:" ++ HH) × WritesMode HH mode
SpellsFormat text half = text ≡ codes "half"
SpellsFormat text (vid table) = text ≡ codes "vid:" ++ table_name table
SpellsFormat text (direct unsigned m b r) =
    (M : List ℕ) × (B : List ℕ) × (R : List ℕ) × (text ≡ direct_kind unsigned ++ M ++ codes "," ++ B ++ codes "," ++ R)
    × WritesWord M m × WritesWord B b × WritesByte R r

-- ---- the format that it names, or what is wrong with its numbers

-- from -least to most
abbrev pub is_from_to : ℕ → ℕ → ℤ → Bool
is_from_to least most (pos n) = nat_lt n (most + 1)
is_from_to least most (negsuc n) = nat_lt n least

-- a linear format of an exponent, which is from -16 to 15
abbrev pub named_linear : (ℤ → NumberFormat) → ℤ → Result NumberFormat FormatFault
named_linear made exponent = if is_from_to 16 15 exponent then Ok (made exponent) else Err BadExponent

-- what is wrong with a VOUT_MODE
abbrev pub mode_fault : ModeFault → FormatFault
mode_fault mode.Relative = Relative
mode_fault mode.Vid = Vid
mode_fault mode.Ieee = Ieee
mode_fault mode.NoCoefficients = NoCoefficients

-- the format that a VOUT_MODE names
abbrev pub mode_format : Result VoutFormat ModeFault → Result NumberFormat FormatFault
mode_format (Ok format) = Ok (number.Word format)
mode_format (Err fault) = Err (mode_fault fault)

-- VOUT_MODE is that of a command whose linear words are unsigned, without coefficients
abbrev pub vout_of : ℕ → Result NumberFormat FormatFault
vout_of mode = mode_format (format_of mode false None)

abbrev pub is_zero : ℤ → Bool
is_zero (pos n) = n == 0
is_zero (negsuc n) = false

-- a DIRECT format: its slope m is not 0, and its power of ten r is from -9 to 9
abbrev pub named_direct : Bool → ℤ → ℤ → ℤ → Result NumberFormat FormatFault
named_direct unsigned m b r =
    if is_zero m then Err ZeroSlope else (
    if is_from_to 9 9 r then Ok (number.Word (Direct (record { m = m; b = b; r = r; unsigned = unsigned })))
    else Err BadScale)

abbrev pub said : Saying → Result NumberFormat FormatFault
said linear11 = Ok number.Linear11
said (linear11_fixed exponent) = named_linear number.Linear11Fixed exponent
said (ulinear16 exponent) = named_linear (λ e. number.Word (Unsigned e)) exponent
said (slinear16 exponent) = named_linear (λ e. number.Word (Signed e)) exponent
said (vout mode) = vout_of mode
said half = Ok number.Half
said (vid table) = Ok (number.Vid table)
said (direct unsigned m b r) = named_direct unsigned m b r

-- ---- the answer to a text

-- What a text says decides: its format, or the first fault of its numbers. `BadFormat` where it says
-- nothing.
pub data Answers (Says : Saying → Type 0) (answer : Result NumberFormat FormatFault) : Type 0 where
  spelled : (saying : Saying) → Says saying → answer ≡ said saying → Answers Says answer
  other : ((saying : Saying) → ¬ (Says saying)) → answer ≡ Err BadFormat → Answers Says answer

-- the format that a text names, or its first fault
abbrev pub Names : List ℕ → Result NumberFormat FormatFault → Type 0
Names text answer = Answers (SpellsFormat text) answer
