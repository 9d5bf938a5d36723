-- The bytes of a field beside what stands in the line.
-- In quotes each quote of a field is doubled. A text without quotes is there where it stands in the line, so that a
-- field is compared, and read where it has no quote, without a copy of its bytes.
use Rattle.std.proofs.Common.{◌≡◌, ℕ, ◌==◌, ◌||◌, Bool, true, false, Option, Some, None, List, [], ◌∷◌, refl, sym}
use Rattle.std.proofs.Common.{◌∙◌, ap, inl, inr, ne_eqb, eq-eqb}
use Rattle.std.proofs.Common.{if◌then◌else◌}
use Rattle.std.specs.Option.{is_some}
use Rattle.std.specs.Str.{bytes_eq}
use Rattle.std.proofs.lemmas.Bool.Decides.{eqb_tells}
use Rattle.pmb_csv.specs.Columns.{has_quote, plain_of}
use Rattle.pmb_csv.specs.Fields.{quote}
use Rattle.pmb_csv.specs.Left.{text_if, undoubled}
use Rattle.pmb_words.specs.Parts.{parted}

pub quote_is_there : (raw : List ℕ) → is_some (parted quote raw).rest ≡ has_quote raw
quote_is_there [] = refl
quote_is_there (byte ∷ raw) =
    let later = quote_is_there raw in
    elim (eqb_tells byte quote) [
      | inl same ↦ simp same.0
      | inr other ↦ simp (other.0, later)
    ]

undoubled_quote : (raw : List ℕ) → has_quote (undoubled raw) ≡ has_quote raw
undoubled_quote [] = refl
undoubled_quote (byte ∷ raw) =
    let later = undoubled_quote raw in
    elim (eqb_tells byte quote) [
      | inl same ↦ simp same.0
      | inr other ↦ simp (other.0, later)
    ]

undoubled_same : (raw : List ℕ) → has_quote raw ≡ false → undoubled raw ≡ raw
undoubled_same [] none = refl
undoubled_same (byte ∷ raw) none =
    elim (eqb_tells byte quote) [
      | inl same ↦ absurd (let some = simp same.0 at none in cc)
      | inr other ↦
          let later = undoubled_same raw (simp other.0 at none) in
          simp (other.0, later)
    ]

plain_undoubled : (raw : List ℕ) (has : Bool) → has_quote raw ≡ has → plain_of (undoubled raw) ≡ plain_of raw
plain_undoubled raw true is = simp (undoubled_quote raw, is)
plain_undoubled raw false is = ap plain_of (undoubled_same raw is)

plain_if : (is_quoted : Bool) (raw : List ℕ) → plain_of (text_if is_quoted raw) ≡ plain_of raw
plain_if true raw = plain_undoubled raw (has_quote raw) refl
plain_if false raw = refl

pub is_plain : (is_quoted : Bool) (raw : List ℕ) (rest : Option (List ℕ)) → rest ≡ (parted quote raw).rest
    → plain_of (text_if is_quoted raw) ≡ (if is_some rest then None else Some raw)
is_plain is_quoted raw rest is =
    plain_if is_quoted raw
    ∙ ap (λ (has : Bool). if has then None else Some raw) (sym (ap is_some is ∙ quote_is_there raw))

-- ---- a text without quotes

neither : (a b : Bool) → (a || b) ≡ false → (a ≡ false) × (b ≡ false)
neither true b is = absurd (cc)
neither false b is = (refl, is)

eq_undoubled : (raw text : List ℕ) → has_quote text ≡ false → bytes_eq (undoubled raw) text ≡ bytes_eq raw text
eq_undoubled [] text none = refl
eq_undoubled (byte ∷ raw) [] none = refl
eq_undoubled (byte ∷ raw) (other ∷ text) none =
    let others = neither (other == quote) (has_quote text) none in
    let later = eq_undoubled raw text others.1 in
    elim (eqb_tells byte quote) [
      | inl same ↦
          let differs : (byte == other) ≡ false = ne_eqb byte other (λ is.
          let bad : (other == quote) ≡ true = eq-eqb other quote (sym is ∙ same.1) in
          let never : true ≡ false = sym bad ∙ others.0 in cc) in
          simp differs
      | inr no_quote ↦ simp (no_quote.0, later)
    ]

pub eq_text : (is_quoted : Bool) (raw text : List ℕ) → has_quote text ≡ false
    → bytes_eq (text_if is_quoted raw) text ≡ bytes_eq raw text
eq_text true raw text none = eq_undoubled raw text none
eq_text false raw text none = refl
