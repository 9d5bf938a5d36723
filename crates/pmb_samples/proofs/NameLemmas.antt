-- The name of a field byte by byte: for `field_name`.
use Rattle.std.proofs.Common.{◌≡◌, ◌∙◌, ℕ, ◌==◌, ◌&&◌, Bool, true, false, List, [], ◌∷◌, take, ap, sym, refl}
use Rattle.std.proofs.Common.{arith, inl, inr, if◌then◌else◌}
use Rattle.std.proofs.lemmas.Bool.{cases_Bool}
use Rattle.pmb_sample_fields.specs.Fields.{behind_blanks, is_blank, quote, trimmed, with_first, without_last_blanks}
use Rattle.pmb_sample_fields.specs.machine.Left.{text_if, undoubled_from}
use Rattle.pmb_samples.specs.machine.Names.{name_from}
use Rattle.pmb_wire_names.specs.Kept.{kept_from, kept_name, with_byte}
use Rattle.pmb_wire_names.specs.Matching.{without_blanks}
use Rattle.pmb_wire_names.proofs.NameLemmas.{kept_is}

-- ---- quotes

and_true : (a : Bool) → (a && true) ≡ a
and_true true = refl
and_true false = refl

and_false : (a b : Bool) → (a && (b && false)) ≡ false
and_false true true = refl
and_false true false = refl
and_false false b = refl

quoted_if : (test : Bool) (kept : List ℕ) (byte : ℕ) (raw : List ℕ)
    → name_from kept false true raw ≡ kept_from kept (undoubled_from false raw)
    → name_from (with_byte kept byte) (byte == quote) true raw
    ≡ kept_from (with_byte kept byte) (undoubled_from (byte == quote) raw)
    → (if test then name_from kept false true raw else name_from (with_byte kept byte) (byte == quote) true raw)
    ≡ kept_from kept (if test then undoubled_from false raw else byte ∷ undoubled_from (byte == quote) raw)
quoted_if true kept byte raw first second = first
quoted_if false kept byte raw first second = second

quoted_name : (kept : List ℕ) (is_second : Bool) (raw : List ℕ)
    → name_from kept is_second true raw ≡ kept_from kept (undoubled_from is_second raw)
quoted_name kept is_second [] = refl
quoted_name kept is_second (byte ∷ raw) =
    ap (λ (b : Bool). if is_second && b then name_from kept false true raw else
    name_from (with_byte kept byte) (byte == quote) true raw) (and_true (byte == quote))
    ∙ quoted_if (is_second && (byte == quote)) kept byte raw (quoted_name kept false raw)
    (quoted_name (with_byte kept byte) (byte == quote) raw)

plain_name : (kept : List ℕ) (is_second : Bool) (raw : List ℕ) → name_from kept is_second false raw ≡ kept_from kept raw
plain_name kept is_second [] = refl
plain_name kept is_second (byte ∷ raw) =
    ap (λ (b : Bool). if b then name_from kept false false raw else
    name_from (with_byte kept byte) (byte == quote) false raw) (and_false is_second (byte == quote))
    ∙ plain_name (with_byte kept byte) (byte == quote) raw

text_name : (is_quoted : Bool) (raw : List ℕ) → name_from [] false is_quoted raw ≡ kept_from [] (text_if is_quoted raw)
text_name true raw = quoted_name [] false raw
text_name false raw = plain_name [] false raw

-- ---- blanks around it

blanks_with : (byte : ℕ) (text : List ℕ) → without_blanks (with_first byte text) ≡ without_blanks (byte ∷ text)
blanks_with byte [] = elim (cases_Bool (is_blank byte)) [
  | inl blank ↦
      ap (λ (b : Bool). without_blanks (if b then [] else byte ∷ [])) blank
      ∙ sym (ap (λ (b : Bool). if b then [] else byte ∷ []) blank)
  | inr other ↦ ap (λ (b : Bool). without_blanks (if b then [] else byte ∷ [])) other
]
blanks_with byte (next ∷ text) = refl

same_by : (test : Bool) (byte : ℕ) (a b : List ℕ) → a ≡ b → (if test then a else byte ∷ a) ≡ (if test then b else byte ∷ b)
same_by true byte a b same = same
same_by false byte a b same = ap (λ (t : List ℕ). byte ∷ t) same

at_end : (text : List ℕ) → without_blanks (without_last_blanks text) ≡ without_blanks text
at_end [] = refl
at_end (byte ∷ text) =
    blanks_with byte (without_last_blanks text)
    ∙ same_by (is_blank byte) byte (without_blanks (without_last_blanks text)) (without_blanks text) (at_end text)

at_start : (text : List ℕ) → without_blanks (behind_blanks text) ≡ without_blanks text
at_start [] = refl
at_start (byte ∷ text) = elim (cases_Bool (is_blank byte)) [
  | inl blank ↦
      ap (λ (b : Bool). without_blanks (if b then behind_blanks text else byte ∷ text)) blank ∙ at_start text
      ∙ sym (ap (λ (b : Bool). if b then without_blanks text else byte ∷ without_blanks text) blank)
  | inr other ↦ ap (λ (b : Bool). without_blanks (if b then behind_blanks text else byte ∷ text)) other
]

trimmed_name : (text : List ℕ) → without_blanks (trimmed text) ≡ without_blanks text
trimmed_name text = at_end (behind_blanks text) ∙ at_start text

-- the first 256 bytes that are no blanks
pub name_is : (is_quoted : Bool) (raw : List ℕ)
    → name_from [] false is_quoted raw ≡ kept_name (trimmed (text_if is_quoted raw))
name_is is_quoted raw =
    text_name is_quoted raw ∙ kept_is [] (text_if is_quoted raw) (omega arith)
    ∙ ap (take 256) (sym (trimmed_name (text_if is_quoted raw)))
