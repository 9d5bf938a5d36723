-- Names of bits are bytes: for the law `objects_are_json`. The table of the standard's is tested by computation, and
-- the profile's are bytes since it is accepted.
use Rattle.std.proofs.Common.{◌≡◌, ◌<◌, ◌==◌, ℕ, zero, suc, ◌^◌, Bool, true, false, cond, Option, Some, None, List}
use Rattle.std.proofs.Common.{[], ◌∷◌, ◌≤◌, arith, codes, decimal, inl, inr, nat_eq, nat_le, refl, reverse}
use Rattle.std.proofs.Common.{slice_get, subst, sym}
use Rattle.std.specs.Prelude.{IfSome, option_map}
use Rattle.std.specs.List.{AllByRecursion, find, list_all}
use Rattle.std.specs.Option.{option_flatten}
use Rattle.std.proofs.lemmas.Bool.{and_parts, leb-true}
use Rattle.pmb_command.specs.Parts.{NamedBit, name_of_bit}
use Rattle.pmb_command.specs.StatusBits.{BitNames, bit_text, status_bits}
use Rattle.pmb_command_data.specs.Bits.{bit_text_in, or_name}
use Rattle.pmb_decimal.proofs.Numbers.{decimal_is_whole}
use Rattle.pmb_json_objects.proofs.Fine.{all_of_both, are_bytes, of_found, tested_bytes}
use Rattle.pmb_json_text.specs.Json.{AreDigits, IsWhole}
use Rattle.pmb_json_text.specs.Spelling.{AreBytes}
use Rattle.pmb_note.specs.Note.{named_bit}
use Rattle.pmb_observed.specs.Told.{BitData}
use Rattle.pmb_stats_objects.specs.Pages.{bit_name}

-- ---- digits

digits_bytes : (text : List ℕ) → AreDigits text → AreBytes text
digits_bytes [] are = tt
digits_bytes (c ∷ text) are =
    let few : c ≤ 57 = leb-true c 57 (and_parts (nat_le 48 c) (nat_le c 57) are.0).1 in
    (omega (arith, few), digits_bytes text are.1)

whole_bytes : (text : List ℕ) → IsWhole text → AreBytes text
whole_bytes [] is = absurd is
whole_bytes (c ∷ text) (inl is) = subst AreBytes (sym is) (tested_bytes (codes "0") refl)
whole_bytes (c ∷ text) (inr is) = digits_bytes (c ∷ text) is.1

decimal_bytes : (n : ℕ) → n < 2 ^ 64 → AreBytes (decimal n)
decimal_bytes n few = whole_bytes (decimal n) (decimal_is_whole n few)

-- ---- status bits

abbrev is_bytes : Option (List ℕ) → Bool
is_bytes None = true
is_bytes (Some name) = are_bytes name

name_at : (name : Option (List ℕ)) → is_bytes name ≡ true → IfSome name AreBytes
name_at None is = tt
name_at (Some name) is = tested_bytes name is

all_names : (names : BitNames) → list_all is_bytes names ≡ true → (bit : ℕ)
    → IfSome (option_flatten (slice_get names bit)) AreBytes
all_names [] are bit = tt
all_names (name ∷ names) are zero = name_at name (and_parts (is_bytes name) (list_all is_bytes names) are).0
all_names (name ∷ names) are (suc bit) = all_names names (and_parts (is_bytes name) (list_all is_bytes names) are).1 bit

record HaveBytes (names : BitNames) : Type 0 where
  each : list_all is_bytes (reverse names) ≡ true

chosen : (b : Bool) {names others : BitNames} → HaveBytes names → HaveBytes others → HaveBytes (cond b names others)
chosen true these those = these
chosen false these those = those

status_bits_are_bytes : (code : ℕ) → HaveBytes (status_bits code)
unfolding status_bits
status_bits_are_bytes code =
    chosen (code == 0x78) (record { each = refl })
    (chosen (code == 0x79) (record { each = refl }) (chosen (code == 0x7a) (record { each = refl })
    (chosen (code == 0x7b) (record { each = refl })
    (chosen (code == 0x7c) (record { each = refl }) (chosen (code == 0x7d) (record { each = refl })
    (chosen (code == 0x7e) (record { each = refl })
    (chosen (code == 0x81) (record { each = refl }) (record { each = refl }))))))))

bit_text_bytes : (code bit : ℕ) → IfSome (bit_text code bit) AreBytes
unfolding bit_text
bit_text_bytes code bit = all_names (reverse (status_bits code)) (status_bits_are_bytes code).each bit

named_bytes : (name : Option (List ℕ)) (bit : ℕ) → bit < 2 ^ 64 → IfSome name AreBytes → AreBytes (named_bit name bit)
named_bytes None bit few bytes =
    all_of_both (λ byte. byte < 256) (codes "bit") (decimal bit) (tested_bytes (codes "bit") refl)
    (decimal_bytes bit few)
named_bytes (Some name) bit few bytes = bytes

-- ---- the profile's names

found_bytes : (found : Option NamedBit) → IfSome found (λ b. AreBytes b.name)
    → IfSome (option_map (λ b. b.name) found) AreBytes
found_bytes None is = tt
found_bytes (Some b) is = is

either_bytes : (name other : Option (List ℕ)) → IfSome name AreBytes → IfSome other AreBytes
    → IfSome (or_name name other) AreBytes
either_bytes None other is others = others
either_bytes (Some name) other is others = is

pub bit_name_bytes : (b : BitData) → AllByRecursion (λ b. AreBytes b.name) b.command.bits → b.bit < 2 ^ 64
    → AreBytes (bit_name b)
bit_name_bytes b names few =
    let code : ℕ = b.command.entry.code in
    let bits : List NamedBit = b.command.bits in
    named_bytes (bit_text_in bits code b.bit) b.bit few
    (either_bytes (name_of_bit b.bit bits) (bit_text code b.bit)
    (found_bytes (find (λ named. nat_eq named.bit b.bit) bits)
    (of_found (λ named. AreBytes named.name) (λ named. nat_eq named.bit b.bit) bits names))
    (bit_text_bytes code b.bit))
