-- The texts of numbers and of bits are bytes below 256. For the law `objects_are_json`, by
-- DataMembers. Digits are computed; the standard's names of status bits are tested in the whole table,
-- and the profile's are bytes by what acceptance tested.
use Rattle.std.proofs.Common.{◌≡◌, ℕ, zero, suc, ◌+◌, ◌*◌, ◌/◌, ◌%◌, ◌^◌, ◌<◌, Bool, true, false, ◌==◌, cond, nat_eq}
use Rattle.std.proofs.Common.{nat_lt, Option, Some, None, List, [], ◌∷◌, ◌++◌, codes, decimal, ℤ, pos, negsuc}
use Rattle.std.proofs.Common.{unsigned_abs, reverse, slice_get, refl, arith}
use Rattle.std.specs.Prelude.{IfSome, option_map}
use Rattle.std.specs.Fmt.{digit_glyph, digits, digits_onto}
use Rattle.std.specs.List.{AllByRecursion, list_all}
use Rattle.std.specs.Option.{option_flatten}
use Rattle.std.proofs.lemmas.Bool.{and_parts}
use Rattle.pmb_command.specs.Parts.{CommandParts, NamedBit, name_of_bit}
use Rattle.pmb_command.specs.StatusBits.{BitNames, bit_text, status_bits}
use Rattle.pmb_command_data.specs.Bits.{bit_text_in, or_name}
use Rattle.pmb_json_fields.specs.Value.{set_bit, set_bits}
use Rattle.pmb_note.specs.Note.{is_set, named_bit}
use Rattle.pmb_json_text.specs.Spelling.{AreBytes}
use Rattle.pmb_quantity.specs.Character.{zero_digit}
use Rattle.pmb_quantity.specs.Fraction.{Fraction}
use Rattle.pmb_quantity.specs.QuantityText.{after_point, magnitude_text, minus, padded, places_of, spelling}
use Rattle.pmb_json_objects.proofs.Fine.{all_of_both, are_bytes, of_either, of_found, tested_bytes}

abbrev IsByte : ℕ → Type 0
IsByte byte = byte < 256

both : (xs ys : List ℕ) → AreBytes xs → AreBytes ys → AreBytes (xs ++ ys)
both = all_of_both IsByte

-- ---- numbers

glyph_is_byte : (digit : ℕ) → digit < 10 → digit_glyph false digit < 256
glyph_is_byte digit few = of_either IsByte (nat_lt digit 10) (48 + digit) (87 + digit) (omega arith) (omega arith)

digits_are_bytes : (k n : ℕ) (text : List ℕ) → AreBytes text → AreBytes (digits_onto k 10 false n text)
digits_are_bytes zero n text small = small
digits_are_bytes (suc k) n text small =
    let glyph : ℕ = digit_glyph false (n % 10) in
    let longer : AreBytes (glyph ∷ text) = (glyph_is_byte (n % 10) (omega arith), small) in
    of_either AreBytes (n / 10 == 0) (glyph ∷ text) (digits_onto k 10 false (n / 10) (glyph ∷ text)) longer
    (digits_are_bytes k (n / 10) (glyph ∷ text) longer)

decimal_is_bytes : (n : ℕ) → AreBytes (decimal n)
unfolding digits
decimal_is_bytes n = digits_are_bytes 64 n [] tt

padded_is_bytes : (places n : ℕ) → AreBytes (padded places n)
padded_is_bytes zero n = tt
padded_is_bytes (suc places) n = both (padded places (n / 10)) ((zero_digit + n % 10) ∷ [])
    (padded_is_bytes places (n / 10)) (omega arith, tt)

point_is_bytes : (places n : ℕ) → AreBytes (after_point places n)
point_is_bytes zero n = tt
point_is_bytes (suc places) n = both (codes ".") (padded (suc places) n) (tested_bytes (codes ".") refl)
    (padded_is_bytes (suc places) n)

magnitude_is_bytes : (n d : ℕ) (places : Option ℕ) → AreBytes (magnitude_text n d places)
magnitude_is_bytes n d (Some places) = both (decimal (n / d)) (after_point places (n % d * (10 ^ places / d)))
    (decimal_is_bytes (n / d)) (point_is_bytes places (n % d * (10 ^ places / d)))
magnitude_is_bytes n d None = both (decimal n) (codes "/" ++ decimal d) (decimal_is_bytes n)
    (both (codes "/") (decimal d) (tested_bytes (codes "/") refl) (decimal_is_bytes d))

sign_is_bytes : (z : ℤ) → AreBytes (minus z)
sign_is_bytes (pos n) = tt
sign_is_bytes (negsuc n) = tested_bytes (codes "-") refl

-- the text of a fraction
pub spelling_is_bytes : (q : Fraction) → AreBytes (spelling q)
unfolding spelling
spelling_is_bytes q =
    both (minus q.numerator) (magnitude_text (unsigned_abs q.numerator) q.denominator (places_of q.denominator))
    (sign_is_bytes q.numerator) (magnitude_is_bytes (unsigned_abs q.numerator) q.denominator
    (places_of q.denominator))

-- ---- names of bits

abbrev is_text : Option (List ℕ) → Bool
is_text None = true
is_text (Some name) = are_bytes name

text_at : (name : Option (List ℕ)) → is_text name ≡ true → IfSome name AreBytes
text_at None is = tt
text_at (Some name) is = tested_bytes name is

all_texts : (names : BitNames) → list_all is_text names ≡ true → (bit : ℕ)
    → IfSome (option_flatten (slice_get names bit)) AreBytes
all_texts [] are bit = tt
all_texts (name ∷ names) are zero = text_at name (and_parts (is_text name) (list_all is_text names) are).0
all_texts (name ∷ names) are (suc bit) = all_texts names (and_parts (is_text name) (list_all is_text names) are).1 bit

-- Each name of a register's bits is bytes, by the test.
record AreTexts (names : BitNames) : Type 0 where
  each : list_all is_text (reverse names) ≡ true

chosen : (b : Bool) {names others : BitNames} → AreTexts names → AreTexts others → AreTexts (cond b names others)
chosen true these those = these
chosen false these those = those

status_bits_are_texts : (code : ℕ) → AreTexts (status_bits code)
unfolding status_bits
status_bits_are_texts code =
    -- STATUS_BYTE 0x78, STATUS_WORD 0x79, STATUS_VOUT 0x7a, STATUS_IOUT 0x7b, STATUS_INPUT 0x7c,
    -- STATUS_TEMPERATURE 0x7d, STATUS_CML 0x7e, STATUS_FANS_1_2 0x81; no others have names
    chosen (nat_eq code 0x78) (record { each = refl })
    (chosen (nat_eq code 0x79) (record { each = refl }) (chosen (nat_eq code 0x7a) (record { each = refl })
    (chosen (nat_eq code 0x7b) (record { each = refl })
    (chosen (nat_eq code 0x7c) (record { each = refl }) (chosen (nat_eq code 0x7d) (record { each = refl })
    (chosen (nat_eq code 0x7e) (record { each = refl })
    (chosen (nat_eq code 0x81) (record { each = refl }) (record { each = refl }))))))))

bit_is_text : (code bit : ℕ) → IfSome (bit_text code bit) AreBytes
unfolding bit_text
bit_is_text code bit = all_texts (reverse (status_bits code)) (status_bits_are_texts code).each bit

found_name : (o : Option NamedBit) → IfSome o (λ b. AreBytes b.name) → IfSome (option_map (λ b. b.name) o) AreBytes
found_name None is = tt
found_name (Some b) is = is

name_of_bit_is_text : (bit : ℕ) (bits : List NamedBit) → AllByRecursion (λ b. AreBytes b.name) bits
    → IfSome (name_of_bit bit bits) AreBytes
name_of_bit_is_text bit bits are = found_name _ (of_found (λ b. AreBytes b.name) (λ b. nat_eq b.bit bit) bits are)

or_name_is_text : (first second : Option (List ℕ)) → IfSome first AreBytes → IfSome second AreBytes
    → IfSome (or_name first second) AreBytes
or_name_is_text None second is other = other
or_name_is_text (Some name) second is other = is

-- the profile's, or else the standard's
name_is_text : (bits : List NamedBit) (code bit : ℕ) → AllByRecursion (λ b. AreBytes b.name) bits
    → IfSome (bit_text_in bits code bit) AreBytes
name_is_text bits code bit are =
    or_name_is_text (name_of_bit bit bits) (bit_text code bit) (name_of_bit_is_text bit bits are)
    (bit_is_text code bit)

named_bit_is_bytes : (name : Option (List ℕ)) (bit : ℕ) → IfSome name AreBytes → AreBytes (named_bit name bit)
named_bit_is_bytes (Some name) bit small = small
named_bit_is_bytes None bit small = both (codes "bit") (decimal bit) (tested_bytes (codes "bit") refl)
    (decimal_is_bytes bit)

pub bits_are_bytes : (c : CommandParts) (value bits : ℕ) → AllByRecursion (λ b. AreBytes b.name) c.bits
    → AllByRecursion AreBytes (set_bits c value bits)
bits_are_bytes c value zero are = tt
bits_are_bytes c value (suc bit) are =
    let text : Option (List ℕ) = bit_text_in c.bits c.entry.code bit in
    let name : List ℕ = named_bit text bit in
    let here : AllByRecursion AreBytes (name ∷ []) =
    (named_bit_is_bytes text bit (name_is_text c.bits c.entry.code bit are), tt) in
    all_of_both AreBytes (set_bit c value bit) (set_bits c value bit)
    (of_either (AllByRecursion AreBytes) (is_set value bit) (name ∷ []) [] here tt)
    (bits_are_bytes c value bit are)
