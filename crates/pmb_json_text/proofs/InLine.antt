-- What is spelled is printable ASCII alone, from 0x20 to 0x7e, so it has no LF and fits in one
-- line. For the law `spelling_fits_in_line`. Each piece is so: strings by their escapes, numbers by
-- their digits, signs by computation.
use Rattle.std.proofs.Common.{◌≡◌, ℕ, ◌<◌, ◌≤◌, Bool, true, false, ◌&&◌, nat_le, List, [], ◌∷◌, ◌++◌, codes, refl, sym}
use Rattle.std.proofs.Common.{◌⊎◌, subst, arith, inl, inr}
use Rattle.std.proofs.lemmas.Bool.{and_parts, cases_Bool, leb-true}
use Rattle.hex.specs.Hex.{encode_lower}
use Rattle.pmb_json_text.specs.declared.item_order.ItemOrder.{ItemOrder}
use Rattle.pmb_json_text.specs.declared.item_order.ItemOrder.TheVariants.{First, Later}
use Rattle.pmb_json_text.specs.Json.{Json, null, boolean, number, string, array, object, Items, no_items, item, Members}
use Rattle.pmb_json_text.specs.Json.{no_members, member, AreDigits, AreSomeDigits, IsMinus, IsWhole, IsFraction}
use Rattle.pmb_json_text.specs.Json.{IsLetter, IsSigned, IsExponent, IsNumber}
use Rattle.pmb_json_text.specs.Spelling.{is_plain, escaped, all_escaped, quoted, comma, spelled, spelled_items}
use Rattle.pmb_json_text.specs.Spelling.{spelled_members, FitsInLine, AreBytes, IsWritable, ItemsAreWritable}
use Rattle.pmb_json_text.specs.Spelling.{MembersAreWritable}
use Rattle.pmb_json_text.specs.Member.{all_plain}
use Rattle.pmb_json_text.proofs.Plain.{digits_are_plain, plain_as_it_is}
use Rattle.pmb_json_text.proofs.Grammar.{escape_has_digits, plain_parts}

-- ---- texts

two_parts : (front back : List ℕ) → FitsInLine front → FitsInLine back → FitsInLine (front ++ back)
two_parts [] back first second = second
two_parts (c ∷ front) back first second = (first.0, two_parts front back first.1 second)

abbrev fits : List ℕ → Bool
fits [] = true
fits (c ∷ more) = (nat_le 0x20 c && nat_le c 0x7e) && fits more

-- of a literal, by computation
literal : (text : List ℕ) → fits text ≡ true → FitsInLine text
literal [] all = tt
literal (c ∷ more) all =
    let here = and_parts (nat_le 0x20 c && nat_le c 0x7e) (fits more) all in
    let range = and_parts (nat_le 0x20 c) (nat_le c 0x7e) here.0 in
    ((leb-true 0x20 c range.0, leb-true c 0x7e range.1), literal more here.1)

-- ---- strings

all_plain_fit : (bytes : List ℕ) → all_plain bytes ≡ true → FitsInLine bytes
all_plain_fit [] plain = tt
all_plain_fit (byte ∷ more) plain =
    let here = and_parts (is_plain byte) (all_plain more) plain in
    let parts = plain_parts byte here.0 in
    ((parts.0, parts.1), all_plain_fit more here.1)

escape : (byte : ℕ) → byte < 256 → FitsInLine (escaped byte)
escape byte less = by_case (cases_Bool (is_plain byte))
  where
    by_case : (is_plain byte ≡ true) ⊎ (is_plain byte ≡ false) → FitsInLine (escaped byte)
    by_case (inl plain) =
        let parts = plain_parts byte plain in
        subst FitsInLine (sym (plain_as_it_is byte plain)) ((parts.0, parts.1), tt)
    by_case (inr not_plain) =
        let zero_fits : 0 < 256 = omega arith in
        subst FitsInLine (sym (escape_has_digits byte not_plain))
        (two_parts (codes "\\u") (encode_lower (0 ∷ byte ∷ [])) (literal (codes "\\u") refl)
        (all_plain_fit (encode_lower (0 ∷ byte ∷ [])) (digits_are_plain (0 ∷ byte ∷ []) (zero_fits, (less, tt)))))

escapes : (bytes : List ℕ) → AreBytes bytes → FitsInLine (all_escaped bytes)
escapes [] fit = tt
escapes (byte ∷ more) fit = two_parts (escaped byte) (all_escaped more) (escape byte fit.0) (escapes more fit.1)

strings : (bytes : List ℕ) → AreBytes bytes → FitsInLine (quoted bytes)
strings bytes fit =
    two_parts (codes "\"") (all_escaped bytes ++ codes "\"") (literal (codes "\"") refl)
    (two_parts (all_escaped bytes) (codes "\"") (escapes bytes fit) (literal (codes "\"") refl))

-- ---- numbers

digits_fit : (digits : List ℕ) → AreDigits digits → FitsInLine digits
digits_fit [] all = tt
digits_fit (c ∷ more) all =
    let range = and_parts (nat_le 48 c) (nat_le c 57) all.0 in
    let from : 48 ≤ c = leb-true 48 c range.0 in
    let to : c ≤ 57 = leb-true c 57 range.1 in
    ((omega arith, omega arith), digits_fit more all.1)

some_digits : (digits : List ℕ) → AreSomeDigits digits → FitsInLine digits
some_digits [] all = absurd all
some_digits (c ∷ more) all = digits_fit (c ∷ more) all

minus : (text : List ℕ) → IsMinus text → FitsInLine text
minus text (inl none) = subst FitsInLine (sym none) tt
minus text (inr one) = subst FitsInLine (sym one) (literal (codes "-") refl)

whole : (text : List ℕ) → IsWhole text → FitsInLine text
whole [] is = absurd is
whole (c ∷ more) (inl zero_alone) = subst FitsInLine (sym zero_alone) (literal (codes "0") refl)
whole (c ∷ more) (inr is) = digits_fit (c ∷ more) is.1

fraction : (text : List ℕ) → IsFraction text → FitsInLine text
fraction text (inl none) = subst FitsInLine (sym none) tt
fraction text (inr is) = subst FitsInLine (sym is.2)
    (two_parts (codes ".") is.0 (literal (codes ".") refl) (some_digits is.0 is.1))

letter : (text : List ℕ) → IsLetter text → FitsInLine text
letter text (inl small) = subst FitsInLine (sym small) (literal (codes "e") refl)
letter text (inr large) = subst FitsInLine (sym large) (literal (codes "E") refl)

signed : (text : List ℕ) → IsSigned text → FitsInLine text
signed text (inl none) = subst FitsInLine (sym none) tt
signed text (inr (inl below_zero)) = subst FitsInLine (sym below_zero) (literal (codes "-") refl)
signed text (inr (inr above)) = subst FitsInLine (sym above) (literal (codes "+") refl)

exponent : (text : List ℕ) → IsExponent text → FitsInLine text
exponent text (inl none) = subst FitsInLine (sym none) tt
exponent text (inr is) =
    subst FitsInLine (sym is.6) (two_parts is.0 (is.1 ++ is.2) (letter is.0 is.3)
    (two_parts is.1 is.2 (signed is.1 is.4) (some_digits is.2 is.5)))

numbers : (text : List ℕ) → IsNumber text → FitsInLine text
numbers text is =
    subst FitsInLine (sym is.parts)
    (two_parts is.minus (is.whole ++ (is.fraction ++ is.exponent)) (minus is.minus is.is_minus)
    (two_parts is.whole (is.fraction ++ is.exponent) (whole is.whole is.is_whole)
    (two_parts is.fraction is.exponent (fraction is.fraction is.is_fraction) (exponent is.exponent is.is_exponent))))

-- ---- values

commas : (place : ItemOrder) → FitsInLine (comma place)
commas First = tt
commas Later = literal (codes ",") refl

mutual
  pub values : (value : Json) → IsWritable value → FitsInLine (spelled value)
  values null fit = literal (codes "null") refl
  values (boolean true) fit = literal (codes "true") refl
  values (boolean false) fit = literal (codes "false") refl
  values (number digits) fit = numbers digits fit
  values (string bytes) fit = strings bytes fit
  values (array items) fit =
      two_parts (codes "[") (spelled_items First items ++ codes "]") (literal (codes "[") refl)
      (two_parts (spelled_items First items) (codes "]") (all_items First items fit) (literal (codes "]") refl))
  values (object members) fit =
      two_parts (codes "{") (spelled_members First members ++ codes "}") (literal (codes "{") refl)
      (two_parts (spelled_members First members) (codes "}") (all_members First members fit) (literal (codes "}") refl))

  all_items : (place : ItemOrder) (items : Items) → ItemsAreWritable items → FitsInLine (spelled_items place items)
  all_items place no_items fit = tt
  all_items place (item value more) fit =
      two_parts (comma place) (spelled value ++ spelled_items Later more) (commas place)
      (two_parts (spelled value) (spelled_items Later more) (values value fit.0) (all_items Later more fit.1))

  all_members : (place : ItemOrder) (members : Members) → MembersAreWritable members
      → FitsInLine (spelled_members place members)
  all_members place no_members fit = tt
  all_members place (member key value more) fit =
      two_parts (comma place) (quoted key ++ (codes ":" ++ (spelled value ++ spelled_members Later more)))
      (commas place)
      (two_parts (quoted key) (codes ":" ++ (spelled value ++ spelled_members Later more)) (strings key fit.0)
      (two_parts (codes ":") (spelled value ++ spelled_members Later more) (literal (codes ":") refl)
      (two_parts (spelled value) (spelled_members Later more) (values value fit.1) (all_members Later more fit.2))))
