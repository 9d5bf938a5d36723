-- A row by its columns, and the number of its bytes without its unit.
use Rattle.std.proofs.Common.{◌≡◌, ◌≢◌, ℕ, ◌==◌, ◌&&◌, ◌||◌, Bool, true, false, Option, Some, None, List, [], ◌∷◌, ◌++◌}
use Rattle.std.proofs.Common.{length, refl, sym, ◌∙◌, ap, inl, inr, if◌then◌else◌, codes, is_some, Bor, option_copied}
use Rattle.std.proofs.lemmas.Bool.Decides.{eqb_tells}
use Rattle.std.specs.Option.{MatchOption}
use Rattle.pmb_beagle.specs.Bytes.{byte_in, bytes_of}
use Rattle.pmb_beagle.specs.Export.{Transaction, ends_with, marks_of, transaction_of, without_unit}
use Rattle.pmb_beagle.specs.declared.columns.Columns.{Columns}
use Rattle.pmb_beagle.specs.declared.transaction.Marks.{Marks}
use Rattle.pmb_csv.specs.Columns.{◌>>=◌, count_of, has_fields, has_quote, value}
use Rattle.pmb_recording.specs.declared.wire_byte.WireByte.{WireByte}
use Rattle.pmb_csv.specs.Fields.{Record, quote}
use Rattle.pmb_csv.specs.Left.{text_if, undoubled}
use Rattle.pmb_words.specs.Parts.{after, words}

-- ---- as many fields as columns

count_some : (whole : Bool) (number found count : ℕ) → Some found ≡ (if whole then Some number else None)
    → (found == count) ≡ (whole && (number == count))
count_some true number found count is =
    let same : found ≡ number = cc in
    ap (λ (n : ℕ). n == count) same
count_some false number found count is = absurd (cc)

count_none : (whole : Bool) (number count : ℕ) → None ≡ (if whole then Some number else None)
    → false ≡ (whole && (number == count))
count_none true number count is = absurd (cc)
count_none false number count is = refl

pub counted : (r : Record) (found count : ℕ) → Some found ≡ count_of r → (found == count) ≡ has_fields count r
counted r found count is = count_some r.is_whole (length r.fields) found count is

pub not_counted : (r : Record) (count : ℕ) → None ≡ count_of r → false ≡ has_fields count r
not_counted r count is = count_none r.is_whole (length r.fields) count is

-- ---- the last byte

-- whether a text ends with a byte, where one may stand in front of it
abbrev pub last_with : ℕ → Bool → List ℕ → Bool
last_with last before [] = before
last_with last before (byte ∷ text) = ends_with last (byte ∷ text)

-- ---- a transaction whose bytes can't be read

-- by its parts
abbrev assembled : Bool → Option Marks → Option WireByte → Option (List WireByte) → Option Transaction
assembled reads marks address bytes = do
  marks ← marks
  address ← address
  bytes ← bytes
  Some (record { reads = reads; marks = marks; address = address; bytes = bytes })

no_bytes_of : (reads : Bool) (marks : Option Marks) (address : Option WireByte) (bytes : Option (List WireByte))
    → bytes ≡ None → assembled reads marks address bytes ≡ None
no_bytes_of reads None address bytes none = refl
no_bytes_of reads (Some marks) None bytes none = refl
no_bytes_of reads (Some marks) (Some address) bytes none = ap (assembled reads (Some marks) (Some address)) none

pub no_transaction : (reads : Bool) (columns : Columns) (r : Record) → bytes_of (words (value columns.bytes r)) ≡ None
    → transaction_of reads columns r ≡ None
no_transaction reads columns r none =
    no_bytes_of reads (marks_of (value columns.marks r)) (byte_in (value columns.address r))
    (bytes_of (words (value columns.bytes r))) none

-- ---- what a field begins with, where that has no quote

pub neither : (a b : Bool) → (a || b) ≡ false → (a ≡ false) × (b ≡ false)
neither true b is = absurd (cc)
neither false b is = (refl, is)

begins_undoubled : (front raw : List ℕ) → has_quote front ≡ false
    → is_some (after front raw) ≡ is_some (after front (undoubled raw))
begins_undoubled [] raw none = refl
begins_undoubled (f ∷ front) [] none = refl
begins_undoubled (f ∷ front) (byte ∷ raw) none =
    let others = neither (f == quote) (has_quote front) none in
    elim (eqb_tells f byte) [
      | inl same ↦
          let no_quote : (byte == quote) ≡ false = ap (λ (b : ℕ). b == quote) (sym same.1) ∙ others.0 in
          simp (same.0, no_quote) (begins_undoubled front raw others.1)
      | inr other ↦ simp other.0
    ]

-- of what is left only its bytes are told
pub copied : (found : Option (Bor (List ℕ))) → is_some found ≡ is_some (option_copied found)
copied (Some rest) = refl
copied None = refl

pub begins : (front : List ℕ) (is_quoted : Bool) (raw : List ℕ) → has_quote front ≡ false
    → is_some (after front raw) ≡ is_some (after front (text_if is_quoted raw))
begins front true raw none = begins_undoubled front raw none
begins front false raw none = refl

-- ---- a number of bytes without its unit

pub blank_unit : (digits : List ℕ) → without_unit (digits ++ codes " B") ≡ digits
blank_unit [] = refl
blank_unit (a ∷ []) = refl
blank_unit (a ∷ b ∷ []) = refl
blank_unit (a ∷ b ∷ c ∷ digits) = ap (λ (t : List ℕ). a ∷ t) (blank_unit (b ∷ c ∷ digits))

pub unit : (digits : List ℕ) → ((front : List ℕ) → digits ++ codes "B" ≢ front ++ codes " B")
    → without_unit (digits ++ codes "B") ≡ digits
unit [] other = refl
unit (a ∷ []) other =
    elim (eqb_tells a 32) [
      | inl same ↦ absurd (other [] (ap (λ (b : ℕ). b ∷ codes "B") same.1))
      | inr no_blank ↦ simp no_blank.0
    ]
unit (a ∷ b ∷ []) other =
    ap (λ (t : List ℕ). a ∷ t) (unit (b ∷ [])
    (λ (front : List ℕ) (same : b ∷ codes "B" ≡ front ++ codes " B").
    other (a ∷ front) (ap (λ (t : List ℕ). a ∷ t) same)))
unit (a ∷ b ∷ c ∷ digits) other =
    ap (λ (t : List ℕ). a ∷ t) (unit (b ∷ c ∷ digits)
    (λ (front : List ℕ) (same : b ∷ c ∷ (digits ++ codes "B") ≡ front ++ codes " B").
    other (a ∷ front) (ap (λ (t : List ℕ). a ∷ t) same)))

pub no_unit : (text : List ℕ) → ((front : List ℕ) → text ≢ front ++ codes "B") → without_unit text ≡ text
no_unit [] other = refl
no_unit (a ∷ []) other =
    elim (eqb_tells a 66) [
      | inl same ↦ absurd (other [] (ap (λ (b : ℕ). b ∷ []) same.1))
      | inr no_b ↦ simp no_b.0
    ]
no_unit (a ∷ b ∷ []) other =
    elim (eqb_tells b 66) [
      | inl same ↦ absurd (other (a ∷ []) (ap (λ (c : ℕ). a ∷ c ∷ []) same.1))
      | inr no_b ↦ elim (eqb_tells a 32) [
        | inl same ↦ simp (same.0, no_b.0)
        | inr no_blank ↦ simp (no_blank.0, no_b.0)
      ]
    ]
no_unit (a ∷ b ∷ c ∷ text) other =
    ap (λ (t : List ℕ). a ∷ t) (no_unit (b ∷ c ∷ text)
    (λ (front : List ℕ) (same : b ∷ c ∷ text ≡ front ++ codes "B").
    other (a ∷ front) (ap (λ (t : List ℕ). a ∷ t) same)))

-- what `strip_suffix` says of both units
pub stripped : (text : List ℕ) (found : Option (Bor (List ℕ)))
    → MatchOption found ((front : List ℕ) → text ≢ front ++ codes " B") (λ digits. text ≡ digits.now ++ codes " B")
    → (digits : Bor (List ℕ)) → found ≡ Some digits → digits.now ≡ without_unit text
stripped text (Some digits) cut other is =
    let same : digits ≡ other = cc in
    ap (λ (d : Bor (List ℕ)). d.now) (sym same) ∙ sym (ap without_unit cut ∙ blank_unit digits.now)
stripped text None cut other is = absurd (cc)

pub not_stripped : (text : List ℕ) (found : Option (Bor (List ℕ)))
    → MatchOption found ((front : List ℕ) → text ≢ front ++ codes " B") (λ digits. text ≡ digits.now ++ codes " B")
    → found ≡ None → (front : List ℕ) → text ≢ front ++ codes " B"
not_stripped text (Some digits) cut is = absurd (cc)
not_stripped text None cut is = cut

pub digits_are : (text : List ℕ) (first found : Option (Bor (List ℕ)))
    → MatchOption first ((front : List ℕ) → text ≢ front ++ codes " B") (λ digits. text ≡ digits.now ++ codes " B")
    → MatchOption found ((front : List ℕ) → text ≢ front ++ codes "B") (λ digits. text ≡ digits.now ++ codes "B")
    → first ≡ None → (digits : Bor (List ℕ)) → found ≡ Some digits → digits.now ≡ without_unit text
digits_are text first (Some digits) none cut is_none other is =
    let no_blank = not_stripped text first none is_none in
    let same : digits ≡ other = cc in
    ap (λ (d : Bor (List ℕ)). d.now) (sym same)
    ∙ sym (ap without_unit cut ∙ unit digits.now
    (λ (front : List ℕ) (blank : digits.now ++ codes "B" ≡ front ++ codes " B"). no_blank front (cut ∙ blank)))
digits_are text first None none cut is_none other is = absurd (cc)

pub no_unit_at : (text : List ℕ) (found : Option (Bor (List ℕ)))
    → MatchOption found ((front : List ℕ) → text ≢ front ++ codes "B") (λ digits. text ≡ digits.now ++ codes "B")
    → found ≡ None → text ≡ without_unit text
no_unit_at text (Some digits) cut is = absurd (cc)
no_unit_at text None cut is = sym (no_unit text cut)
