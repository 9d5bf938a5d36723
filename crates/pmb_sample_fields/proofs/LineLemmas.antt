-- A line at its first field.
-- `next_field` cuts a field off: these say that the fields of the line are that field and those of what follows it.
use Rattle.std.proofs.Common.{◌≡◌, ℕ, ◌==◌, Bool, true, false, Option, Some, None, List, [], ◌∷◌, refl, sym}
use Rattle.std.proofs.Common.{◌-◌, length-drop, ne_eqb, subst}
use Rattle.std.proofs.Common.{◌∙◌, ap, arith, inl, inr, length, take, drop, slice_index, if◌then◌else◌}
use Rattle.std.proofs.lemmas.Bool.{cases_Bool}
use Rattle.std.proofs.lemmas.Bool.Decides.{eqb_tells, nat_tests}
use Rattle.pmb_sample_fields.specs.Fields.{Behind, Closed, Plain, Quoted, at_field, ends}
use Rattle.pmb_sample_fields.specs.Fields.{fields_from, is_blank, longer, quote, record_of, with_field}
use Rattle.pmb_words.specs.Parts.{after}
use Rattle.pmb_sample_fields.specs.machine.Left.{behind_field, behind_mark, plain_length}

-- ---- blanks in front of a field

pub blank_no_quote : (byte : ℕ) → is_blank byte ≡ true → (byte == quote) ≡ false
blank_no_quote byte is = grind (arith, nat_tests)

-- whether a text begins with a quote
abbrev pub begins_quoted : List ℕ → Bool
begins_quoted [] = false
begins_quoted (byte ∷ text) = byte == quote

-- A line whose first field has no quote in front of it begins with a plain one.
pub first_plain : (mark : ℕ) (text : List ℕ) → begins_quoted (at_field mark text) ≡ false
    → record_of mark text ≡ fields_from mark Plain (at_field mark text)
first_plain mark [] none = refl
first_plain mark (byte ∷ text) none = elim (cases_Bool (ends mark byte)) [
  | inl ends_it ↦
      let same : at_field mark (byte ∷ text) ≡ byte ∷ text = rw ends_it refl in
      let no_quote : (byte == quote) ≡ false = sym (ap begins_quoted same) ∙ none in
      let begins : record_of mark (byte ∷ text) ≡ with_field [] (record_of mark text) = rw (no_quote, ends_it) refl in
      let plain : fields_from mark Plain (byte ∷ text) ≡ with_field [] (record_of mark text) = rw ends_it refl in
      begins ∙ sym (ap (fields_from mark Plain) same ∙ plain)
  | inr goes_on ↦ elim (cases_Bool (is_blank byte)) [
    | inl blank ↦
        let front : at_field mark (byte ∷ text) ≡ at_field mark text = rw (goes_on, blank) refl in
        let no_quote : (byte == quote) ≡ false = blank_no_quote byte blank in
        let skipped : record_of mark (byte ∷ text) ≡ record_of mark text = rw (no_quote, goes_on, blank) refl in
        skipped ∙ first_plain mark text (sym (ap begins_quoted front) ∙ none)
        ∙ ap (fields_from mark Plain) (sym front)
    | inr other ↦
        let same : at_field mark (byte ∷ text) ≡ byte ∷ text = rw (goes_on, other) refl in
        let no_quote : (byte == quote) ≡ false = sym (ap begins_quoted same) ∙ none in
        let begins : record_of mark (byte ∷ text) ≡ longer byte (fields_from mark Plain text) =
        rw (no_quote, goes_on, other) refl in
        let plain : fields_from mark Plain (byte ∷ text) ≡ longer byte (fields_from mark Plain text) = rw goes_on refl in
        begins ∙ sym (ap (fields_from mark Plain) same ∙ plain)
  ]
]

-- One whose first field has one begins with a field in quotes.
pub first_quoted : (mark : ℕ) (text inner : List ℕ) → at_field mark text ≡ quote ∷ inner
    → record_of mark text ≡ fields_from mark Quoted inner
first_quoted mark [] inner is = cc
first_quoted mark (byte ∷ text) inner is = elim (cases_Bool (ends mark byte)) [
  | inl ends_it ↦
      let same : at_field mark (byte ∷ text) ≡ byte ∷ text = rw ends_it refl in
      ap (record_of mark) (sym same ∙ is)
  | inr goes_on ↦ elim (cases_Bool (is_blank byte)) [
    | inl blank ↦
        let front : at_field mark (byte ∷ text) ≡ at_field mark text = rw (goes_on, blank) refl in
        let no_quote : (byte == quote) ≡ false = blank_no_quote byte blank in
        let skipped : record_of mark (byte ∷ text) ≡ record_of mark text = rw (no_quote, goes_on, blank) refl in
        skipped ∙ first_quoted mark text inner (sym front ∙ is)
    | inr other ↦
        let same : at_field mark (byte ∷ text) ≡ byte ∷ text = rw (goes_on, other) refl in
        ap (record_of mark) (sym same ∙ is)
  ]
]

-- ---- a field without quotes

pub plain_cut : (mark : ℕ) (text : List ℕ)
    → fields_from mark Plain text
    ≡ with_field (take (plain_length mark text) text) (behind_field mark (behind_mark (drop (plain_length mark text) text)))
plain_cut mark [] = refl
plain_cut mark (byte ∷ text) = elim (cases_Bool (ends mark byte)) [
  | inl ends_it ↦ rw ends_it refl
  | inr goes_on ↦ rw goes_on (ap (longer byte) (plain_cut mark text))
]

pub plain_field : (mark : ℕ) (text raw back : List ℕ) (rest : Option (List ℕ)) (n : ℕ) → n ≡ plain_length mark text
    → raw ≡ take n text → back ≡ drop n text → rest ≡ behind_mark back
    → fields_from mark Plain text ≡ with_field raw (behind_field mark rest)
plain_field mark text raw back rest n is front behind tail =
    plain_cut mark text
    ∙ ap (λ (k : ℕ). with_field (take k text) (behind_field mark (behind_mark (drop k text)))) (sym is)
    ∙ ap (λ (f : List ℕ). with_field f (behind_field mark (behind_mark (drop n text)))) (sym front)
    ∙ ap (λ (b : List ℕ). with_field raw (behind_field mark (behind_mark b))) (sym behind)
    ∙ ap (λ (r : Option (List ℕ)). with_field raw (behind_field mark r)) (sym tail)

-- ---- behind a closing quote

pub closed_behind : (mark : ℕ) (text : List ℕ) → (slice_index text 0 == quote) ≡ false
    → fields_from mark Closed text ≡ fields_from mark Behind text
closed_behind mark [] none = refl
closed_behind mark (byte ∷ text) none = rw none refl

-- ---- parts of a text

take_whole : (text : List ℕ) → take (length text) text ≡ text
take_whole [] = refl
take_whole (byte ∷ text) = ap (λ (t : List ℕ). byte ∷ t) (take_whole text)

-- all that follows a place
pub all_of : (k : ℕ) (text : List ℕ) → take (length text - k) (drop k text) ≡ drop k text
all_of k text =
    subst (λ (n : ℕ). take n (drop k text) ≡ drop k text) (length-drop k text) (take_whole (drop k text))

-- ---- a quote

quote_behind : (text inner : List ℕ) → after (quote ∷ []) text ≡ Some inner → text ≡ quote ∷ inner
quote_behind [] inner is = cc
quote_behind (byte ∷ text) inner is = elim (eqb_tells quote byte) [
  | inl same ↦
      let tail : Some text ≡ Some inner =
      sym (ap (λ (b : Bool). if b then Some text else None) same.0) ∙ is in
      cc
  | inr other ↦
      let none : None ≡ Some inner = sym (ap (λ (b : Bool). if b then Some text else None) other.0) ∙ is in
      cc
]

no_quote_behind : (text : List ℕ) → after (quote ∷ []) text ≡ None → begins_quoted text ≡ false
no_quote_behind [] none = refl
no_quote_behind (byte ∷ text) none = elim (eqb_tells quote byte) [
  | inl same ↦
      let some : Some text ≡ None = sym (ap (λ (b : Bool). if b then Some text else None) same.0) ∙ none in
      cc
  | inr other ↦ ne_eqb byte quote (λ is. other.1 (sym is))
]

pub behind_no_quote : (mark : ℕ) (text from : List ℕ) → from ≡ at_field mark text → after (quote ∷ []) from ≡ None
    → record_of mark text ≡ fields_from mark Plain from
behind_no_quote mark text from is none =
    first_plain mark text (ap begins_quoted (sym is) ∙ no_quote_behind from none)
    ∙ ap (fields_from mark Plain) (sym is)

pub behind_a_quote : (mark : ℕ) (text from inner : List ℕ) → from ≡ at_field mark text
    → after (quote ∷ []) from ≡ Some inner → record_of mark text ≡ fields_from mark Quoted inner
behind_a_quote mark text from inner is some = first_quoted mark text inner (sym is ∙ quote_behind from inner some)
