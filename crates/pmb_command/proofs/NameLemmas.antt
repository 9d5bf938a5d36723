-- What names are: a name that fits is one of any code, and so is the one that is made of the
-- code's digits. For `name_of_code` and the law `names_are_of_entries`. What fits as a name of a
-- device or as a unit is one: for `is_device_name` and `is_unit`.
use Rattle.std.proofs.Common.{◌≡◌, ◌≤◌, ℕ, true, ◌&&◌, List, [], ◌∷◌, length, nat_le, inl, inr, refl, lit≤}
use Rattle.std.specs.List.{AllByRecursion, list_all}
use Rattle.std.proofs.lemmas.Bool.{and_parts, leb-true}
use Rattle.hex.specs.Hex.{encode_with}
use Rattle.pmb_command.specs.Names.{IsDeviceName, IsNameOf, IsPrintableText, IsUnit, code_name, is_device_name}
use Rattle.pmb_command.specs.Names.{is_name, is_name_byte, is_printable}
use Rattle.pmb_command.specs.Names.{is_printable_text, is_unit}

-- a name that fits, for any code
pub fitting_name : (text : List ℕ) → is_name text ≡ true → (code : ℕ) → IsNameOf code text
fitting_name text fits code =
    let parts = and_parts (nat_le 1 (length text) && nat_le (length text) 32) (list_all is_name_byte text) fits in
    let lengths = and_parts (nat_le 1 (length text)) (nat_le (length text) 32) parts.0 in
    record { some = leb-true 1 (length text) lengths.0; most = leb-true (length text) 32 lengths.1; spelled = inl fits }

-- the name that is made of a code
pub made_name : (code : ℕ) → IsNameOf code (code_name code)
unfolding encode_with
made_name code = record { some = lit≤ tt; most = lit≤ tt; spelled = inr refl }

-- characters that pass the test are printable
printable : (text : List ℕ) → list_all is_printable text ≡ true → AllByRecursion (λ b. (0x20 ≤ b) × (b ≤ 0x7e)) text
printable [] all = tt
printable (b ∷ bs) all =
    let parts = and_parts (is_printable b) (list_all is_printable bs) all in
    let bounds = and_parts (nat_le 0x20 b) (nat_le b 0x7e) parts.0 in
    ((leb-true 0x20 b bounds.0, leb-true b 0x7e bounds.1), printable bs parts.1)

-- a name of a device or a unit that passes the test
pub printable_text : (limit : ℕ) (text : List ℕ) → is_printable_text limit text ≡ true → IsPrintableText limit text
printable_text limit text fits =
    let parts = and_parts (nat_le 1 (length text) && nat_le (length text) limit) (list_all is_printable text) fits in
    let lengths = and_parts (nat_le 1 (length text)) (nat_le (length text) limit) parts.0 in
    record {
      some = leb-true 1 (length text) lengths.0;
      most = leb-true (length text) limit lengths.1;
      printable = printable text parts.1;
    }

pub device_name : (text : List ℕ) → is_device_name text ≡ true → IsDeviceName text
device_name = printable_text 32

pub unit_text : (text : List ℕ) → is_unit text ≡ true → IsUnit text
unit_text = printable_text 16
