-- A row by its columns: a number with a quote is none, so that `number` reads texts without quotes alone.
use Rattle.std.proofs.Common.{◌≡◌, ℕ, ◌==◌, ◌&&◌, ◌||◌, Bool, true, false, Option, Some, None, List, [], ◌∷◌}
use Rattle.std.proofs.Common.{length, refl, sym, ◌∙◌, ap, inl, inr, if◌then◌else◌, codes, subst, min, nat_lt, ◌+◌}
use Rattle.std.proofs.Common.{◌-◌, ◌*◌}
use Rattle.std.proofs.lemmas.Bool.Decides.{eqb_tells}
use Rattle.pmb_csv.specs.Columns.{count_of, has_fields, has_quote, plain_of}
use Rattle.pmb_csv.specs.Fields.{Record, quote}
use Rattle.pmb_saleae.specs.Number.{either_number, number_of, numbered, two_digits}
use Rattle.pmb_saleae.specs.declared.number.Radix.TheVariants.{Hexadecimal, Decimal}
use Rattle.pmb_saleae.specs.declared.number.Number.{Number}
use Rattle.pmb_words.specs.Numbers.{byte_of, decimal_from, decimal_of, greatest, is_digit, with_digit}
use Rattle.pmb_words.specs.Parts.{after}

-- ---- as many fields as columns

count_some : (whole : Bool) (number found count : ℕ) → Some found ≡ (if whole then Some number else None)
    → (found == count) ≡ (whole && (number == count))
count_some true number found count is =
    let same : found ≡ number = cc in
    ap (λ (n : ℕ). n == count) same
count_some false number found count is = absurd (cc)

count_none : (whole : Bool) (number count : ℕ) → None ≡ (if whole then Some number else None)
    → false ≡ (whole && (number == count))
count_none true number count is = absurd (cc)
count_none false number count is = refl

pub counted : (r : Record) (found count : ℕ) → Some found ≡ count_of r → (found == count) ≡ has_fields count r
counted r found count is = count_some r.is_whole (length r.fields) found count is

pub not_counted : (r : Record) (count : ℕ) → None ≡ count_of r → false ≡ has_fields count r
not_counted r count is = count_none r.is_whole (length r.fields) count is

-- ---- numbers

is_quote : (has : Bool) (text : List ℕ) → None ≡ (if has then None else Some text) → has ≡ true
is_quote true text is = refl
is_quote false text is = absurd (cc)

pub not_plain : (text : List ℕ) → None ≡ plain_of text → has_quote text ≡ true
not_plain text is = is_quote (has_quote text) text is

pub is_same : (has : Bool) (text plain : List ℕ) → Some plain ≡ (if has then None else Some text) → plain ≡ text
is_same true text plain is = absurd (cc)
is_same false text plain is = cc

pub plain_is : (text plain : List ℕ) → Some plain ≡ plain_of text → plain ≡ text
plain_is text plain is = is_same (has_quote text) text plain is

pub neither : (a b : Bool) → (a || b) ≡ false → (a ≡ false) × (b ≡ false)
neither true b is = absurd (cc)
neither false b is = (refl, is)

pub behind_front : (front text rest : List ℕ) → has_quote front ≡ false → Some rest ≡ after front text
    → has_quote text ≡ has_quote rest
behind_front [] text rest none is =
    let same : text ≡ rest = cc in
    ap has_quote same
behind_front (f ∷ front) [] rest none is = absurd (cc)
behind_front (f ∷ front) (byte ∷ text) rest none is =
    let others = neither (f == quote) (has_quote front) none in
    elim (eqb_tells f byte) [
      | inl same ↦
          let no_quote : (byte == quote) ≡ false = ap (λ (b : ℕ). b == quote) (sym same.1) ∙ others.0 in
          simp no_quote (behind_front front text rest others.1 (simp same.0 at is))
      | inr other ↦ absurd (let none_is = simp other.0 at is in cc)
    ]

none_either : (test : Bool) (found : Option Number) → found ≡ None → (if test then found else None) ≡ None
none_either true found none = none
none_either false found none = refl

none_if : (test : Bool) (found : Option ℕ) → found ≡ None → (if test then found else None) ≡ None
none_if true found none = none
none_if false found none = refl

pub decimal_quote : (number : ℕ) (text : List ℕ) → has_quote text ≡ true → decimal_from number text ≡ None
decimal_quote number [] has = absurd (cc)
decimal_quote number (byte ∷ text) has =
    let next = min (number * 10 + (byte - 48)) greatest in
    elim (eqb_tells byte quote) [
      | inl same ↦
          subst (λ (b : ℕ). decimal_from number (b ∷ text) ≡ None) (sym same.1) refl
      | inr other ↦
          none_if (is_digit byte) (decimal_from next text) (decimal_quote next text (simp other.0 at has))
    ]

pub no_decimal : (text : List ℕ) → has_quote text ≡ true → decimal_of text ≡ None
no_decimal [] has = absurd (cc)
no_decimal (byte ∷ text) has = decimal_quote 0 (byte ∷ text) has

with_none : (number : Option ℕ) → with_digit number None ≡ None
with_none (Some number) = refl
with_none None = refl

no_byte : (high low : ℕ) → has_quote (high ∷ low ∷ []) ≡ true → byte_of high low ≡ None
no_byte high low has =
    elim (eqb_tells high quote) [
      | inl same ↦ subst (λ (h : ℕ). byte_of h low ≡ None) (sym same.1) refl
      | inr other ↦ elim (eqb_tells low quote) [
        | inl same ↦ subst (λ (l : ℕ). byte_of high l ≡ None) (sym same.1) (with_none _)
        | inr neither_is ↦ absurd (let never = simp (other.0, neither_is.0) at has in cc)
      ]
    ]

no_digits : (digits : List ℕ) → has_quote digits ≡ true → two_digits digits ≡ None
no_digits [] has = refl
no_digits (a ∷ []) has = refl
no_digits (a ∷ b ∷ []) has = ap (numbered Hexadecimal) (no_byte a b has)
no_digits (a ∷ b ∷ c ∷ digits) has = refl

no_number : (digits : Option (List ℕ)) (text : List ℕ) → has_quote text ≡ true → digits ≡ after (codes "0x") text
    → either_number digits text ≡ None
no_number None text has is =
    none_either (nat_lt (length text) 4) (numbered Decimal (decimal_of text)) (ap (numbered Decimal) (no_decimal text has))
no_number (Some digits) text has is =
    no_digits digits (sym (behind_front (codes "0x") text digits refl is) ∙ has)

pub number_quote : (text : List ℕ) → has_quote text ≡ true → number_of text ≡ None
number_quote text has = no_number (after (codes "0x") text) text has refl
