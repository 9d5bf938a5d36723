-- A line at its first field.
-- `next_field` cuts a field off: these say that the fields of the line are that field and those of what follows it.
use Rattle.std.proofs.Common.{◌≡◌, ℕ, ◌==◌, ◌&&◌, Bool, true, false, Option, Some, None, List, [], ◌∷◌, refl, sym}
use Rattle.std.proofs.Common.{◌∙◌, ap}
use Rattle.std.proofs.Common.{inl, inr, Bor, not, ne_eqb, option_copied, if◌then◌else◌, ◌-◌, length, take, drop}
use Rattle.std.proofs.Common.{length-drop, subst}
use Rattle.std.proofs.lemmas.Bool.Decides.{eqb_tells}
use Rattle.std.specs.Option.{is_some}
use Rattle.pmb_csv.specs.Fields.{Begins, Closed, Place, Plain, Quoted, Record, behind_empty, comma, fields_from}
use Rattle.pmb_csv.specs.Fields.{longer, quote, record_of}
use Rattle.pmb_csv.specs.Left.{behind_field, broken, with_field}
use Rattle.pmb_words.specs.Parts.{after, parted}

-- ---- a field without quotes

pub plain_field : (line : List ℕ)
    → fields_from Plain line ≡ with_field (parted comma line).front (behind_field (parted comma line).rest)
plain_field [] = refl
plain_field (byte ∷ line) =
    let later = plain_field line in
    elim (eqb_tells byte comma) [
      | inl same ↦ simp same.0
      | inr other ↦ simp (other.0, later)
    ]

-- A line that begins with no quote begins with such a field.
pub first_plain : (line : List ℕ) → after (quote ∷ []) line ≡ None
    → record_of line ≡ with_field (parted comma line).front (behind_field (parted comma line).rest)
first_plain [] none = refl
first_plain (byte ∷ line) none =
    elim (eqb_tells quote byte) [
      | inl same ↦
          let some : Some line ≡ None = sym (ap (λ (is : Bool). if is then Some line else None) same.0) ∙ none in
          absurd (cc)
      | inr other ↦
          let no_quote = ne_eqb byte quote (λ is. other.1 (sym is)) in
          simp no_quote (plain_field (byte ∷ line))
    ]

-- ---- parts of a text

take_whole : (text : List ℕ) → take (length text) text ≡ text
take_whole [] = refl
take_whole (byte ∷ text) = ap (λ (t : List ℕ). byte ∷ t) (take_whole text)

-- all that follows a place
pub all_of : (k : ℕ) (text : List ℕ) → take (length text - k) (drop k text) ≡ drop k text
all_of k text =
    subst (λ (n : ℕ). take n (drop k text) ≡ drop k text) (length-drop k text) (take_whole (drop k text))
