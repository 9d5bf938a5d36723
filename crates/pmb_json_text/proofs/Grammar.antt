-- What is spelled is JSON: each part of a spelling is in the grammar of RFC 8259, as specs define
-- it. For the laws `spelling_is_json` and `line_is_json`. A plain byte stands for itself, another
-- one is `\u` and four digits; lists and objects go member by member.
use Rattle.std.proofs.Common.{◌≡◌, ◌≢◌, ℕ, zero, suc, ◌<◌, ◌≤◌, Bool, true, false, not, ◌&&◌, ◌==◌, nat_le, List, []}
use Rattle.std.proofs.Common.{◌∷◌, ◌++◌, codes, slice_index, ◌⊎◌, refl, sym, ap, arith, inl, inr, cond}
use Rattle.std.proofs.lemmas.Bool.{and_parts, both_ways, cases_Bool, eq-eqb, leb-true, not-true}
use Rattle.std.proofs.lemmas.List.{append-nil}
use Rattle.hex.specs.Hex.{encode_lower, encode_with}
use Rattle.hex.proofs.HexLemmas.{decode_of-encode_lower}
use Rattle.pmb_json_text.specs.declared.item_order.ItemOrder.TheVariants.{First, Later}
use Rattle.pmb_json_text.specs.Json.{Json, null, boolean, number, string, array, object, Items, no_items, item, Members}
use Rattle.pmb_json_text.specs.Json.{no_members, member, IsSign, SpellsCharacter, itself, by_unit, SpellsCharacters}
use Rattle.pmb_json_text.specs.Json.{SpellsString, Spells, SpellsItems, SpellsLaterItems, SpellsMembers}
use Rattle.pmb_json_text.specs.Json.{SpellsLaterMembers, IsJsonText}
use Rattle.pmb_json_text.specs.Spelling.{is_plain, escaped, all_escaped, quoted, spelled, spelled_items}
use Rattle.pmb_json_text.specs.Spelling.{spelled_members, AreBytes, IsWritable, ItemsAreWritable, MembersAreWritable}
use Rattle.pmb_json_text.specs.Member.{Member, members_of, object_of, object_line, AreWritable}
use Rattle.pmb_json_text.proofs.Plain.{plain_as_it_is}

-- ---- characters

not_equal : (a b : ℕ) → not (a == b) ≡ true → a ≢ b
not_equal a b differ = λ same. both_ways (a == b) (not-true (a == b) differ) (eq-eqb a b same)

-- a plain byte is printable ASCII, and neither a quote (0x22) nor a backslash (0x5c)
pub plain_parts : (byte : ℕ) → is_plain byte ≡ true → (0x20 ≤ byte) × (byte ≤ 0x7e) × (byte ≢ 0x22) × (byte ≢ 0x5c)
plain_parts byte plain =
    let both = and_parts (nat_le 0x20 byte && nat_le byte 0x7e) (not (byte == 0x22) && not (byte == 0x5c)) plain in
    let range = and_parts (nat_le 0x20 byte) (nat_le byte 0x7e) both.0 in
    let signs = and_parts (not (byte == 0x22)) (not (byte == 0x5c)) both.1 in
    (leb-true 0x20 byte range.0, leb-true byte 0x7e range.1, not_equal byte 0x22 signs.0, not_equal byte 0x5c signs.1)

-- an escape is `\u` and the four digits of the byte
pub escape_has_digits : (byte : ℕ) → is_plain byte ≡ false → escaped byte ≡ codes "\\u" ++ encode_lower (0 ∷ byte ∷ [])
unfolding encode_with
escape_has_digits byte not_plain = ap (λ (b : Bool). cond b (byte ∷ []) (codes "\\u00" ++ encode_lower (byte ∷ [])))
    not_plain

two_fit : (byte : ℕ) → byte < 256 → (i : ℕ) → slice_index (0 ∷ byte ∷ []) i < 256
two_fit byte less zero = omega arith
two_fit byte less (suc zero) = less
two_fit byte less (suc (suc i)) = omega arith

character : (byte : ℕ) → byte < 256 → SpellsCharacter byte (escaped byte)
character byte less = by_case (cases_Bool (is_plain byte))
  where
    by_case : (is_plain byte ≡ true) ⊎ (is_plain byte ≡ false) → SpellsCharacter byte (escaped byte)
    by_case (inl plain) =
        let parts = plain_parts byte plain in
        itself (parts.0, parts.2, parts.3, omega (arith, parts.1)) (plain_as_it_is byte plain)
    by_case (inr not_plain) =
        by_unit (
          encode_lower (0 ∷ byte ∷ []),
          0,
          byte,
          decode_of-encode_lower (0 ∷ byte ∷ []) (two_fit byte less),
          omega arith,
          escape_has_digits byte not_plain,
        )
        (λ high. omega (arith, high.0)) (λ low. omega (arith, low.0))

characters : (bytes : List ℕ) → AreBytes bytes → SpellsCharacters bytes (all_escaped bytes)
characters [] fit = refl
characters (byte ∷ more) fit = (escaped byte, all_escaped more, character byte fit.0, characters more fit.1, refl)

pub strings : (bytes : List ℕ) → AreBytes bytes → SpellsString bytes (quoted bytes)
strings bytes fit = (all_escaped bytes, characters bytes fit, refl)

-- ---- values

-- a sign with no blanks
sign : (one : List ℕ) → IsSign one one
sign one = ([], [], tt, tt, sym (append-nil one))

mutual
  pub values : (value : Json) → IsWritable value → Spells value (spelled value)
  values null fit = refl
  values (boolean true) fit = refl
  values (boolean false) fit = refl
  values (number digits) fit = (fit, refl)
  values (string bytes) fit = strings bytes fit
  values (array items) fit = (
    codes "[",
    spelled_items First items,
    codes "]",
    sign (codes "["),
    first_items items fit,
    sign (codes "]"),
    refl,
  )
  values (object members) fit = (
    codes "{",
    spelled_members First members,
    codes "}",
    sign (codes "{"),
    first_members members fit,
    sign (codes "}"),
    refl,
  )

  first_items : (items : Items) → ItemsAreWritable items → SpellsItems items (spelled_items First items)
  first_items no_items fit = refl
  first_items (item value more) fit = (
    spelled value,
    spelled_items Later more,
    values value fit.0,
    later_items more fit.1,
    refl,
  )

  later_items : (items : Items) → ItemsAreWritable items → SpellsLaterItems items (spelled_items Later items)
  later_items no_items fit = refl
  later_items (item value more) fit = (
    codes ",",
    spelled value,
    spelled_items Later more,
    sign (codes ","),
    values value fit.0,
    later_items more fit.1,
    refl,
  )

  first_members : (members : Members) → MembersAreWritable members
      → SpellsMembers members (spelled_members First members)
  first_members no_members fit = refl
  first_members (member key value more) fit = (
    quoted key,
    codes ":",
    spelled value,
    spelled_members Later more,
    strings key fit.0,
    sign (codes ":"),
    values value fit.1,
    later_members more fit.2,
    refl,
  )

  later_members : (members : Members) → MembersAreWritable members
      → SpellsLaterMembers members (spelled_members Later members)
  later_members no_members fit = refl
  later_members (member key value more) fit = (
    codes ",",
    quoted key,
    codes ":",
    spelled value,
    spelled_members Later more,
    sign (codes ","),
    strings key fit.0,
    sign (codes ":"),
    values value fit.1,
    later_members more fit.2,
    refl,
  )

-- ---- lines

pub members_are_writable : (members : List Member) → AreWritable members → MembersAreWritable (members_of members)
members_are_writable [] fit = tt
members_are_writable (m ∷ more) fit = (fit.0.0, fit.0.1, members_are_writable more fit.1)

pub lines : (members : List Member) → AreWritable members → IsJsonText (object_line members) (object_of members)
lines members fit = (
  [],
  spelled (object_of members),
  codes "\n",
  tt,
  values (object_of members) (members_are_writable members fit),
  (refl, tt),
  refl,
)
