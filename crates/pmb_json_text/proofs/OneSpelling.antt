-- Two strings of bytes that are spelled alike are the same. For the law `one_string`. Byte by byte:
-- a plain byte is its own character, an escape is six (92 117 48 48 are `\u00`), and a backslash is
-- not plain, so they are told apart.
use Rattle.std.proofs.Common.{◌≡◌, ℕ, ◌/◌, ◌%◌, ◌<◌, true, false, List, [], ◌∷◌, ◌++◌, codes, slice_index, Some, refl}
use Rattle.std.proofs.Common.{sym, ap, ap₂, ◌∙◌, arith, ◌⊎◌, inl, inr, append_assoc}
use Rattle.std.proofs.lemmas.Bool.{cases_Bool}
use Rattle.hex.specs.Hex.{encode_with, hex_digit_value, lower_digits}
use Rattle.hex.proofs.HexLemmas.{IsDigits-lower_digits}
use Rattle.pmb_json_text.specs.Spelling.{is_plain, escaped, all_escaped, quoted, AreBytes}
use Rattle.pmb_json_text.proofs.Plain.{plain_as_it_is}
use Rattle.pmb_json_text.proofs.Grammar.{escape_has_digits, plain_parts}

-- an escape as its six characters
pub escape_as_six : (byte : ℕ) (rest : List ℕ) → is_plain byte ≡ false
    → escaped byte ++ rest ≡ 92 ∷ 117 ∷ 48 ∷ 48 ∷ slice_index lower_digits (byte / 16)
    ∷ slice_index lower_digits (byte % 16) ∷ rest
unfolding encode_with
escape_as_six byte rest not_plain = ap (λ (t : List ℕ). t ++ rest) (escape_has_digits byte not_plain)

pub plain_as_one : (byte : ℕ) (rest : List ℕ) → is_plain byte ≡ true → escaped byte ++ rest ≡ byte ∷ rest
plain_as_one byte rest plain = ap (λ (t : List ℕ). t ++ rest) (plain_as_it_is byte plain)

some_same : (a b : ℕ) → Some a ≡ Some b → a ≡ b
some_same a b same = cc

-- a digit of the table is that of one number
same_digit : (a b : ℕ) → a < 16 → b < 16 → slice_index lower_digits a ≡ slice_index lower_digits b → a ≡ b
same_digit a b first second same =
    some_same a b (sym (IsDigits-lower_digits a first) ∙ ap hex_digit_value same ∙ IsDigits-lower_digits b second)

record Step (x y : ℕ) (a b : List ℕ) : Type 0 where
  -- the bytes are the same, and so is what follows
  byte : x ≡ y
  rest : a ≡ b

heads : (x y : ℕ) (a b : List ℕ) → x ∷ a ≡ y ∷ b → Step x y a b
heads x y a b same = record { byte = cc; rest = cc }

six_parts : (h l k m : ℕ) (a b : List ℕ) → 92 ∷ 117 ∷ 48 ∷ 48 ∷ h ∷ l ∷ a ≡ 92 ∷ 117 ∷ 48 ∷ 48 ∷ k ∷ m ∷ b
    → (h ≡ k) × (l ≡ m) × (a ≡ b)
six_parts h l k m a b same = (cc, cc, cc)

step : (x y : ℕ) (a b : List ℕ) → x < 256 → y < 256 → escaped x ++ a ≡ escaped y ++ b → Step x y a b
step x y a b first second same = by_case (cases_Bool (is_plain x)) (cases_Bool (is_plain y))
  where
    by_case : (is_plain x ≡ true) ⊎ (is_plain x ≡ false) → (is_plain y ≡ true) ⊎ (is_plain y ≡ false) → Step x y a b
    by_case (inl p) (inl q) = heads x y a b (sym (plain_as_one x a p) ∙ same ∙ plain_as_one y b q)
    by_case (inl p) (inr q) =
        absurd ((plain_parts x p).3 (heads x 92 a _ (sym (plain_as_one x a p) ∙ same ∙ escape_as_six y b q)).byte)
    by_case (inr p) (inl q) =
        absurd ((plain_parts y q).3 (heads y 92 b _ (sym (plain_as_one y b q) ∙ sym same ∙ escape_as_six x a p)).byte)
    by_case (inr p) (inr q) =
        let parts = six_parts (slice_index lower_digits (x / 16)) (slice_index lower_digits (x % 16))
        (slice_index lower_digits (y / 16)) (slice_index lower_digits (y % 16)) a b
        (sym (escape_as_six x a p) ∙ same ∙ escape_as_six y b q) in
        let upper : x / 16 ≡ y / 16 = same_digit (x / 16) (y / 16) (omega arith) (omega arith) parts.0 in
        let lower : x % 16 ≡ y % 16 = same_digit (x % 16) (y % 16) (omega arith) (omega arith) parts.1 in
        record { byte = omega arith; rest = parts.2 }

-- no escape begins with a quote
no_quote : (byte : ℕ) (rest more : List ℕ) → byte < 256 → escaped byte ++ rest ≡ 34 ∷ more → ⊥
no_quote byte rest more less same = by_case (cases_Bool (is_plain byte))
  where
    by_case : (is_plain byte ≡ true) ⊎ (is_plain byte ≡ false) → ⊥
    by_case (inl plain) = (plain_parts byte plain).2
        (heads byte 34 rest more (sym (plain_as_one byte rest plain) ∙ same)).byte
    by_case (inr not_plain) =
        let never : 92 ≡ 34 = (heads 92 34 _ more (sym (escape_as_six byte rest not_plain) ∙ same)).byte in
        omega (arith, never)

inside : (a b : List ℕ) → AreBytes a → AreBytes b → all_escaped a ++ codes "\"" ≡ all_escaped b ++ codes "\"" → a ≡ b
inside [] [] first second same = refl
inside [] (y ∷ b) first second same =
    absurd (no_quote y (all_escaped b ++ codes "\"") [] second.0
    (sym (append_assoc (escaped y) (all_escaped b) (codes "\"")) ∙ sym same))
inside (x ∷ a) [] first second same =
    absurd (no_quote x (all_escaped a ++ codes "\"") [] first.0
    (sym (append_assoc (escaped x) (all_escaped a) (codes "\"")) ∙ same))
inside (x ∷ a) (y ∷ b) first second same =
    let one = step x y (all_escaped a ++ codes "\"") (all_escaped b ++ codes "\"") first.0 second.0
    (sym (append_assoc (escaped x) (all_escaped a) (codes "\"")) ∙ same ∙ append_assoc (escaped y) (all_escaped b)
    (codes "\"")) in
    ap₂ (λ (c : ℕ) (t : List ℕ). c ∷ t) one.byte (inside a b first.1 second.1 one.rest)

pub quoted_once : (a b : List ℕ) → AreBytes a → AreBytes b → quoted a ≡ quoted b → a ≡ b
quoted_once a b first second same = inside a b first second
    (heads 34 34 (all_escaped a ++ codes "\"") (all_escaped b ++ codes "\"") same).rest
