-- A quoted field at the quote that closes it.
-- `closing_end` finds the place behind that quote by `closing_of`: the fields behind the first quote are then the field
-- in front of it, with each quote once, and the fields behind it. Where there is none, the line can't be read.
use Rattle.std.proofs.Common.{◌≡◌, ℕ, suc, ◌+◌, ◌-◌, ◌==◌, Bool, true, false, Option, Some, None, List, [], ◌∷◌}
use Rattle.std.proofs.Common.{take, drop, slice_index, refl, sym, ◌∙◌, ap, subst, inl, inr, if◌then◌else◌}
use Rattle.std.proofs.Common.{arith}
use Rattle.std.proofs.lemmas.Bool.Decides.{eqb_tells}
use Rattle.pmb_sample_fields.specs.Fields.{Behind, Closed, Quoted, Record, broken, fields_from, longer, quote, with_field}
use Rattle.pmb_sample_fields.specs.machine.Left.{closing_of, undoubled}
use Rattle.pmb_sample_fields.proofs.LineLemmas.{closed_behind}

-- bytes in front of the first field
abbrev prefixed : List ℕ → Record → Record
prefixed [] r = r
prefixed (byte ∷ bytes) r = longer byte (prefixed bytes r)

prefixed_field : (bytes : List ℕ) (r : Record) → prefixed bytes (with_field [] r) ≡ with_field bytes r
prefixed_field [] r = refl
prefixed_field (byte ∷ bytes) r = ap (longer byte) (prefixed_field bytes r)

prefixed_broken : (bytes : List ℕ) → prefixed bytes broken ≡ broken
prefixed_broken [] = refl
prefixed_broken (byte ∷ bytes) = ap (longer byte) (prefixed_broken bytes)

-- the quote at k closes a field
record Closing (mark : ℕ) (text : List ℕ) (k : ℕ) : Type 0 where
  pub fields : fields_from mark Quoted text
      ≡ prefixed (undoubled (take k text)) (fields_from mark Closed (drop (suc k) text))
  pub alone : (slice_index (drop (suc k) text) 0 == quote) ≡ false

-- what a search says that began after some bytes
abbrev Found : ℕ → ℕ → List ℕ → Option ℕ → Type 0
Found mark at text (Some end) = (k : ℕ) × (end ≡ at + suc k) × Closing mark text k
Found mark at text None = fields_from mark Quoted text ≡ broken

-- a byte that is no quote
past_byte : (mark at byte : ℕ) (text : List ℕ) (r : Option ℕ) → (byte == quote) ≡ false → Found mark (at + 1) text r
    → Found mark at (byte ∷ text) r
past_byte mark at byte text (Some end) other found = (
  suc found.0,
  omega (arith, found.1),
  record {
    fields = simp (other, found.2.fields);
    alone = found.2.alone;
  },
)
past_byte mark at byte text None other none = simp (other, none)

-- two quotes
past_quotes : (mark at next : ℕ) (text : List ℕ) (r : Option ℕ) → next ≡ at + 2 → Found mark next text r
    → Found mark at (quote ∷ quote ∷ text) r
past_quotes mark at next text (Some end) two found = (
  suc (suc found.0),
  omega (arith, found.1),
  record {
    fields = simp found.2.fields;
    alone = found.2.alone;
  },
)
past_quotes mark at next text None two none = simp none

-- the quote that closes
at_last : (mark at : ℕ) → Found mark at (quote ∷ []) (Some (at + 1))
at_last mark at = (0, omega arith, record { fields = refl; alone = refl })

at_alone : (mark at other : ℕ) (text : List ℕ) → (other == quote) ≡ false
    → Found mark at (quote ∷ other ∷ text) (Some (at + 1))
at_alone mark at other text is = (0, omega arith, record { fields = refl; alone = is })

-- a byte behind a quote
behind_byte : (mark at other : ℕ) (text : List ℕ) → Found mark (at + 1 + 1) text (closing_of false (at + 1 + 1) text)
    → Found mark at (quote ∷ other ∷ text) (closing_of true (at + 1) (other ∷ text))
behind_byte mark at other text later =
    elim (eqb_tells other quote) [
      | inl same ↦
          subst (λ (b : ℕ). Found mark at (quote ∷ b ∷ text) (closing_of true (at + 1) (b ∷ text))) (sym same.1)
          (past_quotes mark at (at + 1 + 1) text (closing_of false (at + 1 + 1) text) (omega arith) later)
      | inr other_byte ↦
          subst (λ (is : Bool). Found mark at (quote ∷ other ∷ text)
          (if is then closing_of false (at + 1 + 1) text else Some (at + 1))) (sym other_byte.0)
          (at_alone mark at other text other_byte.0)
    ]

found : (mark at : ℕ) (text : List ℕ) → Found mark at text (closing_of false at text)
found mark at [] = refl
found mark at (byte ∷ []) =
    elim (eqb_tells byte quote) [
      | inl same ↦
          subst (λ (b : ℕ). Found mark at (b ∷ []) (closing_of false at (b ∷ []))) (sym same.1) (at_last mark at)
      | inr other ↦
          subst (λ (is : Bool). Found mark at (byte ∷ []) (closing_of is (at + 1) [])) (sym other.0)
          (past_byte mark at byte [] None other.0 refl)
    ]
found mark at (byte ∷ other ∷ text) =
    let after_byte = found mark (at + 1) (other ∷ text) in
    let after_two = found mark (at + 1 + 1) text in
    elim (eqb_tells byte quote) [
      | inl same ↦
          subst (λ (b : ℕ). Found mark at (b ∷ other ∷ text) (closing_of false at (b ∷ other ∷ text))) (sym same.1)
          (behind_byte mark at other text after_two)
      | inr no_quote ↦
          subst (λ (is : Bool). Found mark at (byte ∷ other ∷ text) (closing_of is (at + 1) (other ∷ text)))
          (sym no_quote.0)
          (past_byte mark at byte (other ∷ text) (closing_of false (at + 1) (other ∷ text)) no_quote.0 after_byte)
    ]

-- ---- the fields of a text that is closed at its place `end`

pub record ClosesAt (mark : ℕ) (text : List ℕ) (end : ℕ) : Type 0 where
  pub fields : fields_from mark Quoted text
      ≡ prefixed (undoubled (take (end - 1) text)) (fields_from mark Behind (drop end text))

at_suc : (mark : ℕ) (text : List ℕ) (k : ℕ) → Closing mark text k → ClosesAt mark text (suc k)
at_suc mark text k closing = record {
  fields =
      closing.fields
      ∙ ap (prefixed (undoubled (take k text))) (closed_behind mark (drop (suc k) text) closing.alone)
      ∙ ap (λ (n : ℕ). prefixed (undoubled (take n text)) (fields_from mark Behind (drop (suc k) text)))
      (let e : k ≡ suc k - 1 = omega arith in e);
}

pub closes : (mark : ℕ) (text : List ℕ) (end : ℕ) → closing_of false 0 text ≡ Some end → ClosesAt mark text end
closes mark text end is =
    let f = subst (Found mark 0 text) is (found mark 0 text) in
    let place : suc f.0 ≡ end = omega (arith, f.1) in
    subst (ClosesAt mark text) place (at_suc mark text f.0 f.2)

pub never_closes : (mark : ℕ) (text : List ℕ) → closing_of false 0 text ≡ None → fields_from mark Quoted text ≡ broken
never_closes mark text is = subst (Found mark 0 text) is (found mark 0 text)

pub closed_field : (mark : ℕ) (text : List ℕ) (end : ℕ) (r : Record) → ClosesAt mark text end
    → fields_from mark Behind (drop end text) ≡ with_field [] r
    → fields_from mark Quoted text ≡ with_field (undoubled (take (end - 1) text)) r
closed_field mark text end r closes is =
    closes.fields ∙ ap (prefixed (undoubled (take (end - 1) text))) is
    ∙ prefixed_field (undoubled (take (end - 1) text)) r

pub no_field : (mark : ℕ) (text : List ℕ) (end : ℕ) → ClosesAt mark text end
    → fields_from mark Behind (drop end text) ≡ broken → fields_from mark Quoted text ≡ broken
no_field mark text end closes is =
    closes.fields ∙ ap (prefixed (undoubled (take (end - 1) text))) is
    ∙ prefixed_broken (undoubled (take (end - 1) text))
