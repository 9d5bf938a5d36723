-- A quoted field at the quote that closes it.
-- `closing_end` finds the place behind that quote by `closing_of`: the fields behind the first quote are then the field
-- in front of it, with each quote once, and the fields behind it. Where there is none, the line can't be read.
use Rattle.std.proofs.Common.{◌≡◌, ℕ, suc, ◌+◌, ◌-◌, ◌<◌, ◌==◌, Bool, true, false, Option, Some, None, List, [], ◌∷◌}
use Rattle.std.proofs.Common.{length, take, drop, slice_index, refl, sym, ◌∙◌, ap, subst, inl, inr, if◌then◌else◌}
use Rattle.std.proofs.Common.{arith}
use Rattle.std.proofs.lemmas.Bool.Decides.{eqb_tells}
use Rattle.pmb_csv.specs.Fields.{Closed, Quoted, Record, comma, fields_from, longer, quote, record_of}
use Rattle.pmb_csv.specs.Left.{broken, closing_of, ended, undoubled, with_field}

-- bytes in front of the first field
abbrev pub prefixed : List ℕ → Record → Record
prefixed [] r = r
prefixed (byte ∷ bytes) r = longer byte (prefixed bytes r)

pub prefixed_field : (bytes : List ℕ) (r : Record) → prefixed bytes (with_field [] r) ≡ with_field bytes r
prefixed_field [] r = refl
prefixed_field (byte ∷ bytes) r = simp (prefixed_field bytes r)

pub prefixed_broken : (bytes : List ℕ) → prefixed bytes broken ≡ broken
prefixed_broken [] = refl
prefixed_broken (byte ∷ bytes) = simp (prefixed_broken bytes)

-- the quote at k closes a field
pub record Closing (text : List ℕ) (k : ℕ) : Type 0 where
  pub fields : fields_from Quoted text ≡ prefixed (undoubled (take k text)) (fields_from Closed (drop (suc k) text))
  pub alone : (slice_index (drop (suc k) text) 0 == quote) ≡ false

-- what a search says that began after some bytes
abbrev pub Found : ℕ → List ℕ → Option ℕ → Type 0
Found at text (Some end) = (k : ℕ) × (end ≡ at + suc k) × Closing text k
Found at text None = fields_from Quoted text ≡ broken

-- a byte that is no quote
past_byte : (at byte : ℕ) (text : List ℕ) (r : Option ℕ) → (byte == quote) ≡ false → Found (at + 1) text r
    → Found at (byte ∷ text) r
past_byte at byte text (Some end) other found = (
  suc found.0,
  omega (arith, found.1),
  record {
    fields = simp (other, found.2.fields);
    alone = found.2.alone;
  },
)
past_byte at byte text None other none = simp (other, none)

-- two quotes
past_quotes : (at next : ℕ) (text : List ℕ) (r : Option ℕ) → next ≡ at + 2 → Found next text r
    → Found at (quote ∷ quote ∷ text) r
past_quotes at next text (Some end) two found = (
  suc (suc found.0),
  omega (arith, found.1),
  record {
    fields = simp found.2.fields;
    alone = found.2.alone;
  },
)
past_quotes at next text None two none = simp none

-- the quote that closes
at_last : (at : ℕ) → Found at (quote ∷ []) (Some (at + 1))
at_last at = (0, omega arith, record { fields = refl; alone = refl })

at_alone : (at other : ℕ) (text : List ℕ) → (other == quote) ≡ false → Found at (quote ∷ other ∷ text) (Some (at + 1))
at_alone at other text is = (0, omega arith, record { fields = refl; alone = is })

-- a byte behind a quote
behind_quote : (at other : ℕ) (text : List ℕ) → Found (at + 1 + 1) text (closing_of false (at + 1 + 1) text)
    → Found at (quote ∷ other ∷ text) (closing_of true (at + 1) (other ∷ text))
behind_quote at other text later =
    elim (eqb_tells other quote) [
      | inl same ↦
          subst (λ (b : ℕ). Found at (quote ∷ b ∷ text) (closing_of true (at + 1) (b ∷ text))) (sym same.1)
          (past_quotes at (at + 1 + 1) text (closing_of false (at + 1 + 1) text) (omega arith) later)
      | inr other_byte ↦
          subst (λ (is : Bool). Found at (quote ∷ other ∷ text)
          (if is then closing_of false (at + 1 + 1) text else Some (at + 1))) (sym other_byte.0)
          (at_alone at other text other_byte.0)
    ]

pub found : (at : ℕ) (text : List ℕ) → Found at text (closing_of false at text)
found at [] = refl
found at (byte ∷ []) =
    elim (eqb_tells byte quote) [
      | inl same ↦ subst (λ (b : ℕ). Found at (b ∷ []) (closing_of false at (b ∷ []))) (sym same.1) (at_last at)
      | inr other ↦
          subst (λ (is : Bool). Found at (byte ∷ []) (closing_of is (at + 1) [])) (sym other.0)
          (past_byte at byte [] None other.0 refl)
    ]
found at (byte ∷ other ∷ text) =
    let behind_byte = found (at + 1) (other ∷ text) in
    let behind_two = found (at + 1 + 1) text in
    elim (eqb_tells byte quote) [
      | inl same ↦
          subst (λ (b : ℕ). Found at (b ∷ other ∷ text) (closing_of false at (b ∷ other ∷ text))) (sym same.1)
          (behind_quote at other text behind_two)
      | inr no_quote ↦
          subst (λ (is : Bool). Found at (byte ∷ other ∷ text) (closing_of is (at + 1) (other ∷ text))) (sym no_quote.0)
          (past_byte at byte (other ∷ text) (closing_of false (at + 1) (other ∷ text)) no_quote.0 behind_byte)
    ]

-- ---- the fields of a text that is closed at its place `end`

pub record ClosesAt (text : List ℕ) (end : ℕ) : Type 0 where
  pub fields : fields_from Quoted text ≡ prefixed (undoubled (take (end - 1) text)) (fields_from Closed (drop end text))
  pub alone : (slice_index (drop end text) 0 == quote) ≡ false

at_suc : (text : List ℕ) (k : ℕ) → Closing text k → ClosesAt text (suc k)
at_suc text k closing = record {
  fields = subst (λ (n : ℕ). fields_from Quoted text ≡ prefixed (undoubled (take n text))
      (fields_from Closed (drop (suc k) text)))
      (omega arith) closing.fields;
  alone = closing.alone;
}

pub closes : (text : List ℕ) (end : ℕ) → closing_of false 0 text ≡ Some end → ClosesAt text end
closes text end is =
    let f = subst (Found 0 text) is (found 0 text) in
    let place : suc f.0 ≡ end = omega (arith, f.1) in
    subst (ClosesAt text) place (at_suc text f.0 f.2)

pub never_closes : (text : List ℕ) → closing_of false 0 text ≡ None → fields_from Quoted text ≡ broken
never_closes text is = subst (Found 0 text) is (found 0 text)

-- what follows is nothing, a comma, or a byte that makes no sense
closed_end : (rest : List ℕ) → length rest ≡ 0 → fields_from Closed rest ≡ with_field [] ended
closed_end [] none = refl
closed_end (byte ∷ rest) none = absurd (omega arith)

closed_comma : (rest : List ℕ) → 0 < length rest → slice_index rest 0 ≡ comma
    → fields_from Closed rest ≡ with_field [] (record_of (drop 1 rest))
closed_comma [] some is = absurd (omega arith)
closed_comma (byte ∷ rest) some is =
    subst (λ (b : ℕ). fields_from Closed (b ∷ rest) ≡ with_field [] (record_of rest)) (sym is) refl

closed_other : (rest : List ℕ) → 0 < length rest → (slice_index rest 0 == comma) ≡ false
    → (slice_index rest 0 == quote) ≡ false → fields_from Closed rest ≡ broken
closed_other [] some no_comma no_quote = absurd (omega arith)
closed_other (byte ∷ rest) some no_comma no_quote = simp (no_comma, no_quote)

pub field_at_end : (text : List ℕ) (end : ℕ) → ClosesAt text end → length (drop end text) ≡ 0
    → fields_from Quoted text ≡ with_field (undoubled (take (end - 1) text)) ended
field_at_end text end closes none =
    closes.fields ∙ ap (prefixed (undoubled (take (end - 1) text))) (closed_end (drop end text) none)
    ∙ prefixed_field (undoubled (take (end - 1) text)) ended

pub field_at_comma : (text : List ℕ) (end : ℕ) → ClosesAt text end → 0 < length (drop end text)
    → slice_index (drop end text) 0 ≡ comma
    → fields_from Quoted text ≡ with_field (undoubled (take (end - 1) text)) (record_of (drop 1 (drop end text)))
field_at_comma text end closes some is =
    closes.fields ∙ ap (prefixed (undoubled (take (end - 1) text))) (closed_comma (drop end text) some is)
    ∙ prefixed_field (undoubled (take (end - 1) text)) (record_of (drop 1 (drop end text)))

pub no_field : (text : List ℕ) (end : ℕ) → ClosesAt text end → 0 < length (drop end text)
    → (slice_index (drop end text) 0 == comma) ≡ false → fields_from Quoted text ≡ broken
no_field text end closes some no_comma =
    closes.fields ∙ ap (prefixed (undoubled (take (end - 1) text)))
    (closed_other (drop end text) some no_comma closes.alone)
    ∙ prefixed_broken (undoubled (take (end - 1) text))
