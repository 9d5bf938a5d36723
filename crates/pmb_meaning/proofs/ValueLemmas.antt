-- What fields say can be written, and takes little room: words of the tables by a test, numbers because they have few
-- bits, the names of status bits by a test of the standard's tables, or by that of an accepted profile. For `SoundLemmas`.
use Rattle.std.proofs.Common.{◌≡◌, ℕ, zero, suc, ◌+◌, ◌-◌, ◌*◌, ◌/◌, ◌%◌, ◌^◌, ◌<◌, ◌≤◌, ◌&&◌, Bool, true, false, cond}
use Rattle.std.proofs.Common.{Option, Some, None, List, [], ◌∷◌, ◌++◌, ℤ, pos, negsuc, unsigned_abs, codes, length}
use Rattle.std.proofs.Common.{max, map, nat_eq, nat_le, nat_lt, slice_index, slice_get, reverse, inl, inr, refl, sym, ap, ◌∙◌}
use Rattle.std.proofs.Common.{subst, arith}
use Rattle.std.specs.Prelude.{find, option_map, unwrap_or}
use Rattle.std.specs.Fmt.{decimal, signed_decimal}
use Rattle.std.specs.Option.{IfSome, option_flatten}
use Rattle.std.specs.List.{AllByRecursion, list_all, list_any}
use Rattle.std.proofs.Math.Pow.{pow_mono}
use Rattle.std.proofs.lemmas.Bool.{and_parts, cases_Bool, cases_lt, eqb-true, leb-true, ltb-true}
use Rattle.std.proofs.lemmas.Fmt.{decimal_digit}
use Rattle.std.proofs.lemmas.Int.{ints}
use Rattle.std.proofs.lemmas.List.{append-nil}
use Rattle.hex.specs.Hex.{encode_lower, encode_with, lower_digits}
use Rattle.pmb_command.specs.Bus.{IsBit, IsCommand, IsDevice}
use Rattle.pmb_command.specs.Entry.{EntryParts}
use Rattle.pmb_command.specs.Names.{is_name, is_name_byte, name_characters}
use Rattle.pmb_command.specs.Parts.{CommandParts, DeviceParts, NamedBit, command_with, name_of_bit, named_bits}
use Rattle.pmb_command.specs.StatusBits.{BitNames, bit_text, status_bits}
use Rattle.pmb_command_data.specs.Bits.{bit_text_in, or_name}
use Rattle.pmb_format.specs.Words.{twos_complement}
use Rattle.pmb_format.proofs.Words.{complement_high, complement_low}
use Rattle.pmb_json_text.specs.Json.{IsNumber, string}
use Rattle.pmb_json_text.specs.Spelling.{AreBytes, IsWritable, ItemsAreWritable, is_plain}
use Rattle.pmb_json_text.specs.Member.{all_plain, items_of}
use Rattle.pmb_json_text.proofs.Decimals.{number_decimal, whole_decimal}
use Rattle.pmb_json_text.proofs.Grammar.{plain_parts}
use Rattle.pmb_table.proofs.Accepted.{All-find}
use Rattle.pmb_meaning.specs.Field.{Said, word, number, truth, words, masked, hex}
use Rattle.pmb_meaning.specs.Layout.{NamedValue, Sense, flag, signed, number_or, choice, command_code, mask}
use Rattle.pmb_meaning.specs.Meaning.{named, said}
use Rattle.pmb_meaning.specs.Names.{RegisterNames, is_set, mask_names, named_bit, names_of, set_names}
use Rattle.pmb_meaning.specs.Object.{value_json}
use Rattle.pmb_meaning.specs.machine.Room.{said_room, words_room}
use Rattle.pmb_meaning.specs.machine.Sound.{AreNamed, AreRegisterNames, are_plain_values, is_plain_sense, is_plain_value, is_short_number}
use Rattle.pmb_meaning.specs.machine.Sound.{is_wide_enough, names_room, sense_room}

-- ---- texts

pub plain_are_bytes : (text : List ℕ) → all_plain text ≡ true → AreBytes text
plain_are_bytes [] plain = tt
plain_are_bytes (byte ∷ more) plain =
    let here = and_parts (is_plain byte) (all_plain more) plain in
    let few : byte ≤ 0x7e = (plain_parts byte here.0).1 in
    (omega (arith, few), plain_are_bytes more here.1)

plain_texts : (names : List (List ℕ)) → list_all all_plain names ≡ true → AllByRecursion AreBytes names
plain_texts [] plain = tt
plain_texts (name ∷ names) plain =
    let here = and_parts (all_plain name) (list_all all_plain names) plain in
    (plain_are_bytes name here.0, plain_texts names here.1)

texts_are_writable : (names : List (List ℕ)) → AllByRecursion AreBytes names
    → ItemsAreWritable (items_of (map string names))
texts_are_writable [] are = tt
texts_are_writable (name ∷ names) are = (are.0, texts_are_writable names are.1)

-- a digit of a table, or 0 past its end
digit_at : (digits : List ℕ) (k : ℕ) → list_all (λ d. nat_lt d 256) digits ≡ true → slice_index digits k < 256
digit_at [] k all = omega arith
digit_at (d ∷ digits) zero all =
    ltb-true d 256 (and_parts (nat_lt d 256) (list_all (λ e. nat_lt e 256) digits) all).0
digit_at (d ∷ digits) (suc k) all =
    digit_at digits k (and_parts (nat_lt d 256) (list_all (λ e. nat_lt e 256) digits) all).1

pub hex_are_bytes : (bytes : List ℕ) → AreBytes (encode_lower bytes)
unfolding encode_with
hex_are_bytes [] = tt
hex_are_bytes (byte ∷ more) = (
  digit_at lower_digits (byte / 16) refl,
  (digit_at lower_digits (byte % 16) refl, hex_are_bytes more),
)

-- ---- numbers

pub signed_number : (z : ℤ) → unsigned_abs z < 2 ^ 64 → IsNumber (signed_decimal z)
signed_number (pos n) small = number_decimal n small
signed_number (negsuc n) small = record {
  minus = codes "-";
  whole = decimal (suc n);
  fraction = [];
  exponent = [];
  is_minus = inr refl;
  is_whole = whole_decimal (suc n) small;
  is_fraction = inl refl;
  is_exponent = inl refl;
  parts = ap (λ (t : List ℕ). codes "-" ++ t) (sym (append-nil (decimal (suc n))));
}

short_number : (z : ℤ) → is_short_number z ≡ true → unsigned_abs z < 2 ^ 64
short_number (pos n) short =
    let less : n < 2 ^ 32 = ltb-true n (2 ^ 32) short in
    omega arith
short_number (negsuc n) short =
    let less : n < 2 ^ 32 = ltb-true n (2 ^ 32) short in
    omega arith

small_complement : (width n : ℕ) → width ≤ 16 → n < 2 ^ width → unsigned_abs (twos_complement width n) < 2 ^ 64
small_complement width n few fits =
    let most : 2 ^ width ≤ 2 ^ 16 = pow_mono few in
    elim (cases_lt n (2 ^ (width - 1))) [
      | inl low ↦
          subst (λ (z : ℤ). unsigned_abs z < 2 ^ 64) (sym (complement_low width n low))
          (let small : n < 2 ^ 64 = omega (arith, most, fits) in small)
      | inr high ↦
          subst (λ (z : ℤ). unsigned_abs z < 2 ^ 64) (sym (complement_high width n high))
          (omega (arith, ints, most, fits))
    ]

-- ---- values

plain_value_writable : (names : RegisterNames) (v : Said) → is_plain_value v ≡ true → IsWritable (value_json names v)
plain_value_writable names (word text) plain = plain_are_bytes text plain
plain_value_writable names (number n) plain = signed_number n (short_number n plain)
plain_value_writable names (truth holds) plain = tt
plain_value_writable names (words texts) plain = texts_are_writable texts (plain_texts texts plain)
plain_value_writable names (masked register byte) plain = absurd (cc plain)
plain_value_writable names (hex all) plain = hex_are_bytes all

named_are_writable : (names : RegisterNames) (values : List NamedValue) → are_plain_values values ≡ true
    → AllByRecursion (λ x. IsWritable (value_json names x.value)) values
named_are_writable names [] plain = tt
named_are_writable names (x ∷ values) plain =
    let here = and_parts (is_plain_value x.value) (are_plain_values values) plain in
    (plain_value_writable names x.value here.0, named_are_writable names values here.1)

-- the value of a name, or else the other one: what holds of all of these holds of it
one_of_two : (P : Said → Type 0) (b : Bool) (x : NamedValue) (rest : Option NamedValue) (other : Said) → P x.value
    → P (unwrap_or (option_map (λ y. y.value) rest) other)
    → P (unwrap_or (option_map (λ y. y.value) (cond b (Some x) rest)) other)
one_of_two P true x rest other here there = here
one_of_two P false x rest other here there = there

named_all : (P : Said → Type 0) (names : List NamedValue) (n : ℕ) (other : Said) → AllByRecursion (λ x. P x.value) names
    → P other → P (unwrap_or (named names n) other)
named_all P [] n other all there = there
named_all P (x ∷ names) n other all there =
    one_of_two P (nat_eq x.number n) x (find (λ y. nat_eq y.number n) names) other all.0
    (named_all P names n other all.1 there)

-- ---- the standard's names of status bits

abbrev is_plain_name : Option (List ℕ) → Bool
is_plain_name None = true
is_plain_name (Some name) = all_plain name && nat_le (length name) 32

plain_at : (names : BitNames) (bit : ℕ) → list_all is_plain_name names ≡ true
    → is_plain_name (option_flatten (slice_get names bit)) ≡ true
plain_at [] bit all = refl
plain_at (name ∷ names) zero all =
    (and_parts (is_plain_name name) (list_all is_plain_name names) all).0
plain_at (name ∷ names) (suc bit) all =
    plain_at names bit (and_parts (is_plain_name name) (list_all is_plain_name names) all).1

-- each name of a register's bits is plain, by the test
record ArePlain (names : BitNames) : Type 0 where
  each : list_all is_plain_name (reverse names) ≡ true

chosen_names : (b : Bool) {names others : BitNames} → ArePlain names → ArePlain others → ArePlain (cond b names others)
chosen_names true these those = these
chosen_names false these those = those

status_bits_are_plain : (code : ℕ) → ArePlain (status_bits code)
unfolding status_bits
status_bits_are_plain code =
    chosen_names (nat_eq code 0x78) (record { each = refl })
    (chosen_names (nat_eq code 0x79) (record { each = refl })
    (chosen_names (nat_eq code 0x7a) (record { each = refl })
    (chosen_names (nat_eq code 0x7b) (record { each = refl })
    (chosen_names (nat_eq code 0x7c) (record { each = refl })
    (chosen_names (nat_eq code 0x7d) (record { each = refl })
    (chosen_names (nat_eq code 0x7e) (record { each = refl })
    (chosen_names (nat_eq code 0x81) (record { each = refl }) (record { each = refl }))))))))

bit_text_is_plain : (code bit : ℕ) → is_plain_name (bit_text code bit) ≡ true
unfolding bit_text
bit_text_is_plain code bit = plain_at (reverse (status_bits code)) bit (status_bits_are_plain code).each

-- ---- names of bits, the profile's or the standard's: they are bytes, and short

record IsShortName (name : List ℕ) : Type 0 where
  bytes : AreBytes name
  short : length name ≤ 32

standard_name_is_short : (name : Option (List ℕ)) → is_plain_name name ≡ true → IfSome name IsShortName
standard_name_is_short None plain = tt
standard_name_is_short (Some name) plain =
    let here = and_parts (all_plain name) (nat_le (length name) 32) plain in
    record { bytes = plain_are_bytes name here.0; short = leb-true (length name) 32 here.1 }

-- one of some bytes is a byte
one_of_bytes : (bytes : List ℕ) (byte : ℕ) → AreBytes bytes → list_any (nat_eq byte) bytes ≡ true → byte < 256
one_of_bytes [] byte small among = absurd (cc among)
one_of_bytes (b ∷ bytes) byte small among =
    elim (cases_Bool (nat_eq byte b)) [
      | inl is ↦ (let first : b < 256 = small.0 in omega (arith, eqb-true byte b is, first))
      | inr other ↦ one_of_bytes bytes byte small.1 (simp other at among)
    ]

name_is_bytes : (name : List ℕ) → list_all is_name_byte name ≡ true → AreBytes name
name_is_bytes [] test = tt
name_is_bytes (byte ∷ name) test =
    let here = and_parts (is_name_byte byte) (list_all is_name_byte name) test in (
      one_of_bytes name_characters byte (plain_are_bytes name_characters refl) here.0,
      name_is_bytes name here.1,
    )

name_is_short : (name : List ℕ) → is_name name ≡ true → IsShortName name
name_is_short name is =
    let parts = and_parts (nat_le 1 (length name) && nat_le (length name) 32) (list_all is_name_byte name) is in
    let lengths = and_parts (nat_le 1 (length name)) (nat_le (length name) 32) parts.0 in
    record { bytes = name_is_bytes name parts.1; short = leb-true (length name) 32 lengths.1 }

first_of : (b : Bool) (bit : NamedBit) (rest : Option NamedBit) → IsShortName bit.name
    → IfSome (option_map (λ x. x.name) rest) IsShortName
    → IfSome (option_map (λ x. x.name) (cond b (Some bit) rest)) IsShortName
first_of true bit rest here there = here
first_of false bit rest here there = there

profile_name_is_short : (bits : List NamedBit) (bit : ℕ) → AreNamed bits → IfSome (name_of_bit bit bits) IsShortName
profile_name_is_short [] bit are = tt
profile_name_is_short (b ∷ bits) bit are =
    first_of (nat_eq b.bit bit) b (find (λ x. nat_eq x.bit bit) bits) (name_is_short b.name are.0)
    (profile_name_is_short bits bit are.1)

either_is_short : (name other : Option (List ℕ)) → IfSome name IsShortName → IfSome other IsShortName
    → IfSome (or_name name other) IsShortName
either_is_short None other first second = second
either_is_short (Some name) other first second = first

bit_name_is_short : (bits : List NamedBit) (register bit : ℕ) → AreNamed bits
    → IfSome (bit_text_in bits register bit) IsShortName
bit_name_is_short bits register bit are =
    either_is_short (name_of_bit bit bits) (bit_text register bit) (profile_name_is_short bits bit are)
    (standard_name_is_short (bit_text register bit) (bit_text_is_plain register bit))

-- what stands for a bit without a name
pub bit_number : (bit digit : ℕ) → bit < 8 → digit ≡ 48 + bit
    → codes "bit" ++ (digit ∷ []) ≡ codes "bit" ++ decimal bit
bit_number bit digit less is =
    ap (λ (t : List ℕ). codes "bit" ++ t) (ap (λ (d : ℕ). d ∷ []) is ∙ sym (decimal_digit bit (omega arith)))

named_bit_is_short : (name : Option (List ℕ)) (bit : ℕ) → IfSome name IsShortName → bit < 8
    → IsShortName (named_bit name bit)
named_bit_is_short (Some name) bit is less = is
named_bit_is_short None bit is less =
    subst (λ (t : List ℕ). IsShortName (codes "bit" ++ t)) (sym (decimal_digit bit (omega arith)))
    (record {
      bytes = (omega arith, (omega arith, (omega arith, (omega arith, tt))));
      short = omega arith;
    })

-- names of bits that are bytes, and take little room
record AreShortNames (names : List (List ℕ)) (most : ℕ) : Type 0 where
  bytes : AllByRecursion AreBytes names
  room : words_room names ≤ most

one_more : (b : Bool) (name : List ℕ) (names : List (List ℕ)) (most : ℕ) → IsShortName name → AreShortNames names most
    → AreShortNames (cond b (name ∷ []) [] ++ names) (195 + most)
one_more true name names most here those = record {
  bytes = (here.bytes, those.bytes);
  room = omega (arith, here.short, those.room);
}
one_more false name names most here those = record { bytes = those.bytes; room = omega (arith, those.room) }

set_names_are_short : (bits : List NamedBit) → AreNamed bits → (register byte many : ℕ) → many ≤ 8
    → AreShortNames (set_names bits register byte many) (195 * many)
set_names_are_short bits are register byte zero few = record { bytes = tt; room = omega arith }
set_names_are_short bits are register byte (suc many) few =
    let same : 195 + 195 * many ≡ 195 * suc many = omega arith in
    subst (λ (most : ℕ). AreShortNames (set_names bits register byte (suc many)) most) same
    (one_more (is_set byte many) (named_bit (bit_text_in bits register many) many) (set_names bits register byte many)
    (195 * many)
    (named_bit_is_short (bit_text_in bits register many) many (bit_name_is_short bits register many are) (omega arith))
    (set_names_are_short bits are register byte many (omega arith)))

-- the names that an accepted profile gives the bits of a device's registers
bits_are_named : (e : EntryParts) (bits : List NamedBit) → AllByRecursion (IsBit e) bits → AreNamed bits
bits_are_named e [] all = tt
bits_are_named e (b ∷ bits) all = (all.0.name, bits_are_named e bits all.1)

command_bits_are_named : (found : Option CommandParts) → IfSome found IsCommand → AreNamed (named_bits found)
command_bits_are_named None is = tt
command_bits_are_named (Some c) is = bits_are_named c.entry c.bits is.bits.each

pub device_names : (device : DeviceParts) → IsDevice device → AreRegisterNames (names_of device)
device_names device is register =
    command_bits_are_named (command_with register device.commands)
    (All-find IsCommand (λ c. nat_eq c.entry.code register) device.commands is.commands)

pub mask_names_have_room : (device : DeviceParts) → IsDevice device → (register byte : ℕ)
    → words_room (mask_names (names_of device) register byte) ≤ 8 * 195
mask_names_have_room device is register byte =
    (set_names_are_short (names_of device register) (device_names device is register) register byte 8
    (omega arith)).room

-- ---- what bits say

pub said_writable : (names : RegisterNames) → AreRegisterNames names → (sense : Sense) (width n : ℕ)
    → is_wide_enough sense width ≡ true → is_plain_sense sense ≡ true
    → n < 2 ^ width → width ≤ 24 → IsWritable (value_json names (said sense width n))
said_writable names are flag width n wide plain fits few = tt
said_writable names are signed width n wide plain fits few =
    signed_number (twos_complement width n)
    (small_complement width n (leb-true width 16 (and_parts (nat_le 1 width) (nat_le width 16) wide).1) fits)
said_writable names are (number_or values) width n wide plain fits few =
    let most : 2 ^ width ≤ 2 ^ 24 = pow_mono few in
    let small : n < 2 ^ 64 = omega (arith, most, fits) in
    named_all (λ v. IsWritable (value_json names v)) values n (number (pos n)) (named_are_writable names values plain)
    (signed_number (pos n) small)
said_writable names are (choice values) width n wide plain fits few =
    named_all (λ v. IsWritable (value_json names v)) values n (word (codes "reserved"))
    (named_are_writable names values plain) (plain_are_bytes (codes "reserved") refl)
said_writable names are command_code width n wide plain fits few = hex_are_bytes (n % 256 ∷ [])
said_writable names are mask width n wide plain fits few =
    texts_are_writable (mask_names names (n % 256) (n / 256 % 256))
    (set_names_are_short (names (n % 256)) (are (n % 256)) (n % 256) (n / 256 % 256) 8 (omega arith)).bytes

-- ---- and how much room it takes

names_have_room : (names : List NamedValue) (most : ℕ) → names_room names ≤ most
    → AllByRecursion (λ x. said_room x.value ≤ most) names
names_have_room [] most few = tt
names_have_room (x ∷ names) most few =
    let all : max (said_room x.value) (names_room names) ≤ most = few in
    (omega (arith, all), names_have_room names most (omega (arith, all)))

pub said_has_room : (sense : Sense) (width n : ℕ) → said_room (said sense width n) ≤ sense_room sense
said_has_room flag width n = omega arith
said_has_room signed width n = omega arith
said_has_room (number_or names) width n =
    named_all (λ v. said_room v ≤ max 31 (names_room names)) names n (number (pos n))
    (names_have_room names (max 31 (names_room names)) (omega arith)) (omega arith)
said_has_room (choice names) width n =
    named_all (λ v. said_room v ≤ max 70 (names_room names)) names n (word (codes "reserved"))
    (names_have_room names (max 70 (names_room names)) (omega arith)) (omega arith)
said_has_room command_code width n = omega arith
said_has_room mask width n = omega arith
