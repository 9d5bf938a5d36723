-- The bytes of a field beside what stands in the line: blanks around it, and doubled quotes in it.
use Rattle.std.proofs.Common.{◌≡◌, ℕ, ◌==◌, ◌||◌, Bool, true, false, Some, None, List, [], ◌∷◌}
use Rattle.std.proofs.Common.{refl, ◌∙◌, ap, inl, inr, length, take, if◌then◌else◌}
use Rattle.std.proofs.lemmas.Bool.{cases_Bool}
use Rattle.std.proofs.lemmas.Bool.Decides.{eqb_tells}
use Rattle.pmb_sample_fields.specs.Fields.{behind_blanks, is_blank, quote, trimmed, with_first, without_last_blanks}
use Rattle.pmb_sample_fields.specs.Row.{has_quote, plain_of}
use Rattle.pmb_sample_fields.specs.machine.Left.{text_if, undoubled}
use Rattle.pmb_sample_fields.proofs.LineLemmas.{blank_no_quote}

-- ---- without blanks at its end

front_with : (byte : ℕ) (text used : List ℕ) → take (length used) text ≡ used
    → take (length (with_first byte used)) (byte ∷ text) ≡ with_first byte used
front_with byte text [] is = elim (cases_Bool (is_blank byte)) [
  | inl blank ↦ rw blank refl
  | inr other ↦ rw other refl
]
front_with byte text (next ∷ used) is = ap (λ (t : List ℕ). byte ∷ t) is

pub used_front : (text : List ℕ) → take (length (without_last_blanks text)) text ≡ without_last_blanks text
used_front [] = refl
used_front (byte ∷ text) = front_with byte text (without_last_blanks text) (used_front text)

-- ---- quotes

quote_with : (byte : ℕ) (text : List ℕ) → has_quote (with_first byte text) ≡ (byte == quote || has_quote text)
quote_with byte [] = elim (cases_Bool (is_blank byte)) [
  | inl blank ↦
      let none : (byte == quote) ≡ false = blank_no_quote byte blank in
      rw (blank, none) refl
  | inr other ↦ rw other refl
]
quote_with byte (next ∷ text) = refl

quote_at_end : (text : List ℕ) → has_quote (without_last_blanks text) ≡ has_quote text
quote_at_end [] = refl
quote_at_end (byte ∷ text) =
    quote_with byte (without_last_blanks text) ∙ ap (λ (h : Bool). byte == quote || h) (quote_at_end text)

quote_at_start : (text : List ℕ) → has_quote (behind_blanks text) ≡ has_quote text
quote_at_start [] = refl
quote_at_start (byte ∷ text) = elim (cases_Bool (is_blank byte)) [
  | inl blank ↦
      let none : (byte == quote) ≡ false = blank_no_quote byte blank in
      rw (blank, none) (quote_at_start text)
  | inr other ↦ rw other refl
]

quote_trimmed : (text : List ℕ) → has_quote (trimmed text) ≡ has_quote text
quote_trimmed text = quote_at_end (behind_blanks text) ∙ quote_at_start text

quote_undoubled : (raw : List ℕ) → has_quote (undoubled raw) ≡ has_quote raw
quote_undoubled [] = refl
quote_undoubled (byte ∷ raw) =
    let later = quote_undoubled raw in
    elim (eqb_tells byte quote) [
      | inl same ↦ simp same.0
      | inr other ↦ simp (other.0, later)
    ]

same_undoubled : (raw : List ℕ) → has_quote raw ≡ false → undoubled raw ≡ raw
same_undoubled [] none = refl
same_undoubled (byte ∷ raw) none =
    elim (eqb_tells byte quote) [
      | inl same ↦ absurd (let some = simp same.0 at none in cc)
      | inr other ↦
          let later = same_undoubled raw (simp other.0 at none) in
          simp (other.0, later)
    ]

quote_if : (is_quoted : Bool) (raw : List ℕ) → has_quote (text_if is_quoted raw) ≡ has_quote raw
quote_if true raw = quote_undoubled raw
quote_if false raw = refl

same_if : (is_quoted : Bool) (raw : List ℕ) → has_quote raw ≡ false → text_if is_quoted raw ≡ raw
same_if true raw none = same_undoubled raw none
same_if false raw none = refl

pub plain_text : (is_quoted : Bool) (raw : List ℕ) → has_quote raw ≡ false
    → plain_of (trimmed (text_if is_quoted raw)) ≡ Some (trimmed raw)
plain_text is_quoted raw none =
    ap (λ (t : List ℕ). plain_of (trimmed t)) (same_if is_quoted raw none)
    ∙ ap (λ (h : Bool). if h then None else Some (trimmed raw)) (quote_trimmed raw ∙ none)

pub quoted_text : (is_quoted : Bool) (raw : List ℕ) → has_quote raw ≡ true
    → plain_of (trimmed (text_if is_quoted raw)) ≡ None
quoted_text is_quoted raw some =
    ap (λ (h : Bool). if h then None else Some (trimmed (text_if is_quoted raw)))
    (quote_trimmed (text_if is_quoted raw) ∙ quote_if is_quoted raw ∙ some)
