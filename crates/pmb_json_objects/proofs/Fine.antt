-- Members that can be written as JSON and whose values hold no object with a key twice (`IsFine`):
-- texts, digits, counts, tests and lists of texts. For the laws `objects_are_json` and
-- `all_objects_are_json`. Keys of the source are tested by computation, and the name, the unit and the
-- names of bits of a command are bytes by what acceptance tested.
use Rattle.std.proofs.Common.{◌≡◌, ℕ, ◌<◌, ◌≤◌, ◌^◌, ◌/◌, ◌%◌, Bool, true, false, nat_lt, nat_eq, if◌then◌else◌, Option}
use Rattle.std.proofs.Common.{Some, None, List, [], ◌∷◌, ◌++◌, codes, decimal, get_or, map, refl, sym, subst, arith}
use Rattle.std.proofs.Common.{inl, inr, zero, suc}
use Rattle.std.specs.Prelude.{IfSome}
use Rattle.std.specs.List.{AllByRecursion, find, list_all, list_any}
use Rattle.std.proofs.lemmas.Bool.{and_parts, cases_Bool, eqb-true, ltb-true}
use Rattle.hex.specs.Hex.{encode_lower, encode_with, lower_digits}
use Rattle.pmb_command.specs.Bus.{IsBit, IsCommand, IsUnitOf}
use Rattle.pmb_command.specs.declared.entry.Kind.{Kind}
use Rattle.pmb_command.specs.Entry.{EntryParts}
use Rattle.pmb_command.specs.Names.{IsNameOf, is_name, is_name_byte, name_characters}
use Rattle.pmb_command.specs.Parts.{CommandParts, NamedBit}
use Rattle.pmb_json_text.specs.Json.{HasDistinctKeys, IsNumber, ItemsHaveDistinctKeys, MembersHaveDistinctKeys, null}
use Rattle.pmb_json_text.specs.Json.{boolean, string}
use Rattle.pmb_json_text.specs.Member.{AreWritable, Member, array_of, count, digits, items_of, members_of, named}
use Rattle.pmb_json_text.specs.Spelling.{AreBytes, IsWritable, ItemsAreWritable}

-- ---- bytes

-- what holds of each of some and of others
pub all_of_both : {A : Type 0} (P : A → Type 0) (xs ys : List A) → AllByRecursion P xs → AllByRecursion P ys
    → AllByRecursion P (xs ++ ys)
all_of_both P [] ys these those = those
all_of_both P (x ∷ xs) ys these those = (these.0, all_of_both P xs ys these.1 those)

-- what holds of two values holds of the one that a test takes
pub of_either : {A : Type 0} (P : A → Type 0) (b : Bool) (x y : A) → P x → P y → P (if b then x else y)
of_either P true x y one other = one
of_either P false x y one other = other

abbrev pub are_bytes : List ℕ → Bool
are_bytes text = list_all (λ byte. nat_lt byte 256) text

pub tested_bytes : (text : List ℕ) → are_bytes text ≡ true → AreBytes text
tested_bytes [] test = tt
tested_bytes (byte ∷ text) test =
    let here = and_parts (nat_lt byte 256) (are_bytes text) test in
    (ltb-true byte 256 here.0, tested_bytes text here.1)

byte_at : (text : List ℕ) (i : ℕ) → AreBytes text → get_or text i 0 < 256
byte_at [] i small = omega arith
byte_at (byte ∷ text) zero small = small.0
byte_at (byte ∷ text) (suc i) small = byte_at text i small.1

-- digits are bytes, also of what is none
pub digits_are_bytes : (bytes : List ℕ) → AreBytes (encode_lower bytes)
unfolding encode_with
digits_are_bytes [] = tt
digits_are_bytes (byte ∷ bytes) = (
  byte_at lower_digits (byte / 16) (tested_bytes lower_digits refl),
  (byte_at lower_digits (byte % 16) (tested_bytes lower_digits refl), digits_are_bytes bytes),
)

-- ---- members

pub record IsFine (m : Member) : Type 0 where
  -- its key is bytes, its value can be written, and holds no object with a key twice
  pub key : AreBytes m.key
  pub value : IsWritable m.value
  pub flat : HasDistinctKeys m.value

abbrev pub AreFine : List Member → Type 0
AreFine members = AllByRecursion IsFine members

pub fine_of_both : (xs ys : List Member) → AreFine xs → AreFine ys → AreFine (xs ++ ys)
fine_of_both = all_of_both IsFine

pub are_writable : (members : List Member) → AreFine members → AreWritable members
are_writable [] fine = tt
are_writable (m ∷ members) fine = ((fine.0.key, fine.0.value), are_writable members fine.1)

pub are_flat : (members : List Member) → AreFine members → MembersHaveDistinctKeys (members_of members)
are_flat [] fine = tt
are_flat (m ∷ members) fine = (fine.0.flat, are_flat members fine.1)

-- a key of the source, with a value of each kind
pub fine_text : (key text : List ℕ) → are_bytes key ≡ true → AreBytes text → IsFine (named key (string text))
fine_text key text plain bytes = record { key = tested_bytes key plain; value = bytes; flat = tt }

pub fine_word : (key text : List ℕ) → are_bytes key ≡ true → are_bytes text ≡ true → IsFine (named key (string text))
fine_word key text plain test = fine_text key text plain (tested_bytes text test)

pub fine_digits : (key bytes : List ℕ) → are_bytes key ≡ true → IsFine (named key (digits bytes))
fine_digits key bytes plain = fine_text key (encode_lower bytes) plain (digits_are_bytes bytes)

pub fine_boolean : (key : List ℕ) (b : Bool) → are_bytes key ≡ true → IsFine (named key (boolean b))
fine_boolean key b plain = record { key = tested_bytes key plain; value = tt; flat = tt }

pub fine_null : (key : List ℕ) → are_bytes key ≡ true → IsFine (named key null)
fine_null key plain = record { key = tested_bytes key plain; value = tt; flat = tt }

texts_are_writable : (texts : List (List ℕ)) → AllByRecursion AreBytes texts
    → ItemsAreWritable (items_of (map string texts))
texts_are_writable [] bytes = tt
texts_are_writable (text ∷ texts) bytes = (bytes.0, texts_are_writable texts bytes.1)

pub texts_are_flat : (texts : List (List ℕ)) → ItemsHaveDistinctKeys (items_of (map string texts))
texts_are_flat [] = tt
texts_are_flat (text ∷ texts) = (tt, texts_are_flat texts)

pub fine_texts : (key : List ℕ) (texts : List (List ℕ)) → are_bytes key ≡ true → AllByRecursion AreBytes texts
    → IsFine (named key (array_of (map string texts)))
fine_texts key texts plain bytes = record {
  key = tested_bytes key plain;
  value = texts_are_writable texts bytes;
  flat =
      texts_are_flat texts;
}

-- that the digits of a number are a number
abbrev pub DigitsAreNumbers : Type 0
DigitsAreNumbers = (n : ℕ) → n < 2 ^ 64 → IsNumber (decimal n)

pub fine_count : DigitsAreNumbers → (key : List ℕ) (n : ℕ) → are_bytes key ≡ true → n < 2 ^ 64
    → IsFine (named key (count n))
fine_count numbers key n plain few = record { key = tested_bytes key plain; value = numbers n few; flat = tt }

-- ---- the texts of a command

-- what holds of each holds of the one that is found
pub of_found : {A : Type 0} (P : A → Type 0) (test : A → Bool) (xs : List A) → AllByRecursion P xs
    → IfSome (find test xs) P
of_found P test [] each = tt
of_found P test (x ∷ xs) each = of_either (λ o. IfSome o P) (test x) (Some x) (find test xs) each.0
    (of_found P test xs each.1)

-- one of some bytes is a byte
one_of_bytes : (bytes : List ℕ) (byte : ℕ) → AreBytes bytes → list_any (nat_eq byte) bytes ≡ true → byte < 256
one_of_bytes [] byte small among = absurd (cc among)
one_of_bytes (b ∷ bytes) byte small among =
    elim (cases_Bool (nat_eq byte b)) [
      | inl is ↦ (let first : b < 256 = small.0 in omega (arith, eqb-true byte b is, first))
      | inr other ↦ one_of_bytes bytes byte small.1 (simp other at among)
    ]

name_bytes : (text : List ℕ) → list_all is_name_byte text ≡ true → AreBytes text
name_bytes [] test = tt
name_bytes (byte ∷ text) test =
    let here = and_parts (is_name_byte byte) (list_all is_name_byte text) test in
    (one_of_bytes name_characters byte (tested_bytes name_characters refl) here.0, name_bytes text here.1)

name_is_bytes : (name : List ℕ) → is_name name ≡ true → AreBytes name
name_is_bytes name is = name_bytes name (and_parts _ (list_all is_name_byte name) is).1

command_name_is_bytes : (code : ℕ) (name : List ℕ) → IsNameOf code name → AreBytes name
command_name_is_bytes code name is =
    elim is.spelled [
      | inl fits ↦ name_is_bytes name fits
      | inr made ↦ subst AreBytes (sym made) (all_of_both (λ byte. byte < 256) (codes "CMD_") (encode_lower (code ∷ []))
          (tested_bytes (codes "CMD_") refl) (digits_are_bytes (code ∷ [])))
    ]

-- characters from 20h to 7eh
pub printed_bytes : (text : List ℕ) → AllByRecursion (λ b. (0x20 ≤ b) × (b ≤ 0x7e)) text → AreBytes text
printed_bytes [] printable = tt
printed_bytes (byte ∷ text) printable = (omega (arith, printable.0.1), printed_bytes text printable.1)

unit_is_bytes : (kind : Kind) (unit : Option (List ℕ)) → IfSome unit (IsUnitOf kind) → IfSome unit AreBytes
unit_is_bytes kind None is = tt
unit_is_bytes kind (Some unit) is = printed_bytes unit is.text.printable

bits_have_names : (e : EntryParts) (bits : List NamedBit) → AllByRecursion (IsBit e) bits
    → AllByRecursion (λ b. AreBytes b.name) bits
bits_have_names e [] are = tt
bits_have_names e (b ∷ bits) are = (name_is_bytes b.name are.0.name, bits_have_names e bits are.1)

-- The texts of a command are bytes: its name, its unit, and the names that the profile gives its bits.
pub record HasTexts (c : CommandParts) : Type 0 where
  pub name : AreBytes c.entry.name
  pub unit : IfSome c.unit AreBytes
  pub bits : AllByRecursion (λ b. AreBytes b.name) c.bits

pub command_texts : (c : CommandParts) → IsCommand c → HasTexts c
command_texts c is = record {
  name = command_name_is_bytes c.entry.code c.entry.name is.entry.name;
  unit = unit_is_bytes c.entry.kind c.unit is.unit;
  bits = bits_have_names c.entry c.bits is.bits.each;
}
