-- Texts that are appended one after the other, each with a bound on how long it is (`Appends`). For
-- `append_parts`, `append_text`, `append_alert`, `append_digits`, `append_bit`, `append_value` and
-- the others of this crate. Two texts appended are one, and their bounds add up; 320 and 323 bound
-- a part and one after another.
use Rattle.std.proofs.Common.{◌≡◌, ℕ, ◌+◌, ◌*◌, ◌<◌, ◌≤◌, ◌-◌, codes, get_or, map, take, drop, Bool, true, ◌&&◌, ltb}
use Rattle.std.proofs.Common.{List, [], ◌∷◌, ◌++◌, length, refl, sym, ap, ◌∙◌, subst, append_assoc, arith}
use Rattle.std.specs.Str.{IsAscii}
use Rattle.std.proofs.lemmas.Bool.{and_parts, ltb-true}
use Rattle.std.proofs.lemmas.Str.Ascii.{IsAscii-nil, IsAscii-cons}
use Rattle.hex.specs.Hex.{lower_digits}
use Rattle.std.proofs.lemmas.List.{append-nil, map-append, take_all, take_more}
use Rattle.std.proofs.Math.Seq.{take-length}
use Rattle.std.proofs.lemmas.Str.{IsUtf8-append, IsUtf8-nil}
use Rattle.std.specs.List.{flat_map}
use Rattle.std.proofs.lemmas.Grind.{flat_map-append}
use Rattle.pmb_transaction.specs.declared.part.Part.{Part}
use Rattle.pmb_transaction.specs.Transaction.{PartData, part_data}
use Rattle.pmb_note.specs.Note.{joined}
use Rattle.pmb_note.specs.machine.Written.{Appends}

-- one text, and another after it
pub then : {x y : List ℕ} {m n : ℕ} {a b c : List ℕ} → Appends x m a b → Appends y n b c → Appends (x ++ y) (m + n) a c
then {x} {y} {m} {n} {a} {b} {c} first second = record {
  items = second.items ∙ ap (λ (zs : List ℕ). zs ++ y) first.items ∙ append_assoc a x y;
  longer = omega (arith, first.longer, second.longer);
  utf8 = IsUtf8-append x y first.utf8 second.utf8;
}

-- a bound that is greater
pub at_most : {x : List ℕ} {m : ℕ} {a b : List ℕ} (n : ℕ) → m ≤ n → Appends x m a b → Appends x n a b
at_most n more all = record { items = all.items; longer = omega (arith, all.longer); utf8 = all.utf8 }

-- nothing is appended
pub nothing : (n : ℕ) (a : List ℕ) → Appends [] n a a
nothing n a = record { items = sym (append-nil a); longer = omega arith; utf8 = IsUtf8-nil }

-- a text under another name
pub called : {x y : List ℕ} {m : ℕ} {a b : List ℕ} → x ≡ y → Appends x m a b → Appends y m a b
called {x} {y} {m} {a} {b} same all = subst (λ (z : List ℕ). Appends z m a b) same all

-- ---- hexadecimal digits

abbrev are_ascii : List ℕ → Bool
are_ascii [] = true
are_ascii (b ∷ bytes) = ltb b 128 && are_ascii bytes

ascii_from_test : (bytes : List ℕ) → are_ascii bytes ≡ true → IsAscii bytes
ascii_from_test [] passes = IsAscii-nil
ascii_from_test (b ∷ bytes) passes =
    let test = and_parts (ltb b 128) (are_ascii bytes) passes in
    IsAscii-cons b bytes (ltb-true b 128 test.0) (ascii_from_test bytes test.1)

pub digits_are_ascii : IsAscii lower_digits
digits_are_ascii = ascii_from_test lower_digits refl

-- ---- parts

-- a part after another
abbrev pub part_behind : (PartData → List ℕ) → PartData → List ℕ
part_behind text part = codes " + " ++ text part

-- the text of one part more
pub more_parts : (text : PartData → List ℕ) (parts : List Part) (i : ℕ) (part : Part) → i < length parts
    → part ≡ get_or parts i part
    → flat_map text (map part_data (take i parts)) ++ text (part_data part)
    ≡ flat_map text (map part_data (take (i + 1) parts))
more_parts text parts i part within is =
    let more : take (i + 1) parts ≡ take i parts ++ part ∷ [] = take_more parts i part within
    ∙ ap (λ (p : Part). take i parts ++ p ∷ []) (sym is) in
    let datas : map part_data (take (i + 1) parts) ≡ map part_data (take i parts) ++ part_data part ∷ [] =
    ap (λ (ps : List Part). map part_data ps) more ∙ map-append part_data (take i parts) (part ∷ []) in
    let texts : flat_map text (map part_data (take i parts) ++ part_data part ∷ [])
    ≡ flat_map text (map part_data (take i parts)) ++ (text (part_data part) ++ []) =
    flat_map-append text (map part_data (take i parts)) (part_data part ∷ []) in
    ap (λ (last : List ℕ). flat_map text (map part_data (take i parts)) ++ last)
    (sym (append-nil (text (part_data part)))) ∙ sym texts ∙ ap (flat_map text) (sym datas)

-- parts, the first apart
pub first_part : (text : PartData → List ℕ) (part : PartData) (parts : List PartData)
    → joined (map text (part ∷ parts)) ≡ text part ++ flat_map (part_behind text) parts
first_part text part [] = sym (append-nil (text part))
first_part text part (other ∷ parts) = ap (λ (rest : List ℕ). text part ++ (codes " + " ++ rest))
    (first_part text other parts)

-- a list, its first element apart
pub first_and_rest : {A : Type 0} (xs : List A) (x : A) → 1 ≤ length xs → x ≡ get_or xs 0 x
    → xs ≡ x ∷ take (length xs - 1) (drop 1 xs)
first_and_rest [] x some is = absurd (omega (arith, some))
first_and_rest (y ∷ xs) x some is =
    let whole : take (length xs) xs ≡ xs = take-length xs in
    let long : length (y ∷ xs) - 1 ≡ length xs = omega arith in
    ap (λ z. z ∷ xs) (sym is) ∙ ap (λ zs. x ∷ zs) (sym (ap (λ (n : ℕ). take n xs) long ∙ whole))

-- the first part and the others
pub parts_text : (text : PartData → List ℕ) (all : List Part) (part : Part) (rest : List Part) (n most : ℕ)
    (a b c : List ℕ) → all ≡ part ∷ rest → length rest ≤ n
    → Appends (text (part_data part)) 320 a b
    → Appends (flat_map (part_behind text) (map part_data (take n rest))) (323 * n) b c → 320 + 323 * n ≤ most
    → Appends (joined (map text (map part_data all))) most a c
parts_text text all part rest n most a b c split whole first others few =
    let taken : take n rest ≡ rest = take_all n rest whole in
    let same : text (part_data part) ++ flat_map (part_behind text) (map part_data (take n rest))
    ≡ joined (map text (map part_data all)) =
    ap (λ (ps : List Part). text (part_data part) ++ flat_map (part_behind text) (map part_data ps)) taken
    ∙ sym (first_part text (part_data part) (map part_data rest))
    ∙ ap (λ (ps : List Part). joined (map text (map part_data ps))) (sym split) in
    called same (at_most most few (then first others))
