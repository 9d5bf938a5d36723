-- A field with a quote.
-- Numbers, bytes and times are read of texts without quotes alone: with one they are none by their definitions too.
use Rattle.std.proofs.Common.{◌≡◌, ℕ, ◌==◌, ◌&&◌, ◌||◌, Bool, true, false, Option, Some, None, List, [], ◌∷◌}
use Rattle.std.proofs.Common.{length, refl, sym, ◌∙◌, ap, inl, inr, if◌then◌else◌, subst, min, ◌+◌}
use Rattle.std.proofs.Common.{◌-◌, ◌*◌}
use Rattle.std.proofs.lemmas.Bool.Decides.{eqb_tells}
use Rattle.pmb_beagle.specs.Bytes.{answered, byte_in, bytes_of, in_front}
use Rattle.pmb_beagle.specs.Export.{without_unit}
use Rattle.pmb_beagle.specs.Time.{are_digits, colon, in_seconds, point, time_of, told, with_millionths, with_seconds}
use Rattle.pmb_beagle.specs.Time.{with_thousandths}
use Rattle.pmb_csv.specs.Columns.{has_quote, plain_of}
use Rattle.pmb_csv.specs.Fields.{quote}
use Rattle.pmb_recording.specs.declared.wire_byte.WireByte.{WireByte}
use Rattle.pmb_words.specs.Numbers.{byte_of, decimal_from, decimal_of, fitting_from, fitting_of, greatest, is_digit}
use Rattle.pmb_words.specs.Numbers.{with_digit, with_value}
use Rattle.pmb_words.specs.Parts.{blank, longer, parted, pieces, with_bytes, words}

-- ---- a text without quotes

is_quote : (has : Bool) (text : List ℕ) → None ≡ (if has then None else Some text) → has ≡ true
is_quote true text is = refl
is_quote false text is = absurd (cc)

pub not_plain : (text : List ℕ) → None ≡ plain_of text → has_quote text ≡ true
not_plain text is = is_quote (has_quote text) text is

is_same : (has : Bool) (text plain : List ℕ) → Some plain ≡ (if has then None else Some text) → plain ≡ text
is_same true text plain is = absurd (cc)
is_same false text plain is = cc

pub plain_is : (text plain : List ℕ) → Some plain ≡ plain_of text → plain ≡ text
plain_is text plain is = is_same (has_quote text) text plain is

-- ---- tests

or_nothing : (a : Bool) → (a || false) ≡ a
or_nothing true = refl
or_nothing false = refl

or_assoc : (a b c : Bool) → ((a || b) || c) ≡ (a || (b || c))
or_assoc true b c = refl
or_assoc false b c = refl

and_false : (a : Bool) → (a && false) ≡ false
and_false true = refl
and_false false = refl

-- ---- numbers

none_if : (test : Bool) (found : Option ℕ) → found ≡ None → (if test then found else None) ≡ None
none_if true found none = none
none_if false found none = refl

decimal_quote : (number : ℕ) (text : List ℕ) → has_quote text ≡ true → decimal_from number text ≡ None
decimal_quote number [] has = absurd (cc)
decimal_quote number (byte ∷ text) has =
    let next = min (number * 10 + (byte - 48)) greatest in
    elim (eqb_tells byte quote) [
      | inl same ↦
          subst (λ (b : ℕ). decimal_from number (b ∷ text) ≡ None) (sym same.1) refl
      | inr other ↦
          none_if (is_digit byte) (decimal_from next text) (decimal_quote next text (simp other.0 at has))
    ]

pub no_decimal : (text : List ℕ) → has_quote text ≡ true → decimal_of text ≡ None
no_decimal [] has = absurd (cc)
no_decimal (byte ∷ text) has = decimal_quote 0 (byte ∷ text) has

fitting_quote : (number : Option ℕ) (text : List ℕ) → has_quote text ≡ true → fitting_from number text ≡ None
fitting_quote number [] has = absurd (cc)
fitting_quote number (byte ∷ text) has =
    let next = with_value number (byte - 48) in
    elim (eqb_tells byte quote) [
      | inl same ↦
          subst (λ (b : ℕ). fitting_from number (b ∷ text) ≡ None) (sym same.1) refl
      | inr other ↦
          none_if (is_digit byte) (fitting_from next text) (fitting_quote next text (simp other.0 at has))
    ]

no_fitting : (text : List ℕ) → has_quote text ≡ true → fitting_of text ≡ None
no_fitting [] has = absurd (cc)
no_fitting (byte ∷ text) has = fitting_quote (Some 0) (byte ∷ text) has

-- a number of bytes with its unit
unit_quote : (text : List ℕ) → has_quote (without_unit text) ≡ has_quote text
unit_quote [] = refl
unit_quote (a ∷ []) =
    elim (eqb_tells a 66) [
      | inl same ↦ subst (λ (b : ℕ). has_quote (without_unit (b ∷ [])) ≡ has_quote (b ∷ [])) (sym same.1) refl
      | inr other ↦ simp other.0
    ]
unit_quote (a ∷ b ∷ []) =
    elim (eqb_tells a 32) [
      | inl blank_is ↦ elim (eqb_tells b 66) [
        | inl same ↦
            subst (λ (x : ℕ). has_quote (without_unit (x ∷ b ∷ [])) ≡ has_quote (x ∷ b ∷ [])) (sym blank_is.1)
            (subst (λ (y : ℕ). has_quote (without_unit (32 ∷ y ∷ [])) ≡ has_quote (32 ∷ y ∷ [])) (sym same.1) refl)
        | inr other ↦ simp (blank_is.0, other.0)
      ]
      | inr other ↦ simp other.0 (ap (λ (q : Bool). (a == quote) || q) (unit_quote (b ∷ [])))
    ]
unit_quote (a ∷ b ∷ c ∷ text) = ap (λ (q : Bool). (a == quote) || q) (unit_quote (b ∷ c ∷ text))

pub no_length : (text : List ℕ) → has_quote text ≡ true → decimal_of (without_unit text) ≡ None
no_length text has = no_decimal (without_unit text) (unit_quote text ∙ has)

-- ---- bytes

with_none : (number : Option ℕ) → with_digit number None ≡ None
with_none (Some number) = refl
with_none None = refl

no_byte : (high low : ℕ) → (high == quote || (low == quote || false)) ≡ true → byte_of high low ≡ None
no_byte high low has =
    elim (eqb_tells high quote) [
      | inl same ↦ subst (λ (h : ℕ). byte_of h low ≡ None) (sym same.1) refl
      | inr other ↦ elim (eqb_tells low quote) [
        | inl same ↦ subst (λ (l : ℕ). byte_of high l ≡ None) (sym same.1) (with_none _)
        | inr neither_is ↦ absurd (let never = simp (other.0, neither_is.0) at has in cc)
      ]
    ]

none_answered : (star : Bool) (byte : Option ℕ) → byte ≡ None → (if star then answered false byte else None) ≡ None
none_answered true byte none = ap (answered false) none
none_answered false byte none = refl

pub no_byte_in : (text : List ℕ) → has_quote text ≡ true → byte_in text ≡ None
no_byte_in [] has = refl
no_byte_in (a ∷ []) has = refl
no_byte_in (high ∷ low ∷ []) has = ap (answered true) (no_byte high low has)
no_byte_in (high ∷ low ∷ star ∷ []) has =
    elim (eqb_tells star quote) [
      | inl same ↦ subst (λ (s : ℕ). byte_in (high ∷ low ∷ s ∷ []) ≡ None) (sym same.1) refl
      | inr other ↦ none_answered (star == 42) (byte_of high low) (no_byte high low (simp other.0 at has))
    ]
no_byte_in (a ∷ b ∷ c ∷ d ∷ rest) has = refl

-- some texts, of which one has a quote
abbrev have_quote : List (List ℕ) → Bool
have_quote [] = false
have_quote (text ∷ texts) = has_quote text || have_quote texts

longer_quote : (byte : ℕ) (texts : List (List ℕ)) → have_quote (longer byte texts) ≡ (byte == quote || have_quote texts)
longer_quote byte [] = or_nothing (byte == quote || false) ∙ refl
longer_quote byte (text ∷ texts) = or_assoc (byte == quote) (has_quote text) (have_quote texts)

pieces_quote : (text : List ℕ) → have_quote (pieces blank text) ≡ has_quote text
pieces_quote [] = refl
pieces_quote (byte ∷ text) =
    elim (eqb_tells byte blank) [
      | inl same ↦
          subst (λ (b : ℕ). have_quote (pieces blank (b ∷ text)) ≡ has_quote (b ∷ text)) (sym same.1)
          (pieces_quote text)
      | inr other ↦
          simp other.0 (longer_quote byte (pieces blank text)
          ∙ ap (λ (q : Bool). (byte == quote) || q) (pieces_quote text))
    ]

with_bytes_quote : (texts : List (List ℕ)) → have_quote (with_bytes texts) ≡ have_quote texts
with_bytes_quote [] = refl
with_bytes_quote ([] ∷ texts) = with_bytes_quote texts
with_bytes_quote ((byte ∷ text) ∷ texts) = ap (λ (q : Bool). has_quote (byte ∷ text) || q) (with_bytes_quote texts)

none_behind : (b : Option WireByte) → in_front b None ≡ None
none_behind (Some b) = refl
none_behind None = refl

one_quote : (has : Bool) (b : Option WireByte) (bytes : Option (List WireByte)) → (has ≡ true → b ≡ None)
    → (has ≡ false → bytes ≡ None) → in_front b bytes ≡ None
one_quote true b bytes first others = ap (λ (x : Option WireByte). in_front x bytes) (first refl)
one_quote false b bytes first others = ap (in_front b) (others refl) ∙ none_behind b

words_quote : (texts : List (List ℕ)) → have_quote texts ≡ true → bytes_of texts ≡ None
words_quote [] has = absurd (cc)
words_quote (word ∷ texts) has =
    one_quote (has_quote word) (byte_in word) (bytes_of texts) (no_byte_in word)
    (λ (no_quote : has_quote word ≡ false). words_quote texts (simp no_quote at has))

pub no_bytes : (text : List ℕ) → has_quote text ≡ true → bytes_of (words text) ≡ None
no_bytes text has = words_quote (words text) (with_bytes_quote (pieces blank text) ∙ pieces_quote text ∙ has)

-- ---- times

undigits : (count : ℕ) (text : List ℕ) → has_quote text ≡ true → are_digits count text ≡ false
undigits count text has = simp (no_decimal text has) (and_false (length text == count))

abbrev quote_if : Option (List ℕ) → Bool
quote_if (Some text) = has_quote text
quote_if None = false

parted_quote : (at : ℕ) (text : List ℕ) → (at == quote) ≡ false
    → has_quote text ≡ (has_quote (parted at text).front || quote_if (parted at text).rest)
parted_quote at [] other = refl
parted_quote at (byte ∷ text) other =
    elim (eqb_tells byte at) [
      | inl same ↦
          let no_quote : (byte == quote) ≡ false = ap (λ (b : ℕ). b == quote) same.1 ∙ other in
          simp (same.0, no_quote)
      | inr no_end ↦
          simp no_end.0 (ap (λ (q : Bool). (byte == quote) || q) (parted_quote at text other)
          ∙ sym (or_assoc (byte == quote) (has_quote (parted at text).front) (quote_if (parted at text).rest)))
    ]

none_told : (test : Bool) (text : List ℕ) → text ≡ [] → (if test then text else []) ≡ []
none_told true text none = none
none_told false text none = refl

none_third : (a : Bool) (text : List ℕ) → (if a && false then text else []) ≡ []
none_third true text = refl
none_third false text = refl

none_last : (a b : Bool) (text : List ℕ) → (if a && (b && false) then text else []) ≡ []
none_last true b text = none_third b text
none_last false b text = refl

-- a time of four parts, of which one has a quote
one_part : (a b c d second third last : Bool) (whole : Option ℕ) (thousandths millionths : List ℕ)
    → (a || (b || (c || d))) ≡ true → (a ≡ true → whole ≡ None) → (b ≡ true → second ≡ false)
    → (c ≡ true → third ≡ false) → (d ≡ true → last ≡ false)
    → (if second && (third && last) then told whole thousandths millionths else []) ≡ []
one_part true b c d second third last whole thousandths millionths has in_a in_b in_c in_d =
    none_told (second && (third && last)) (told whole thousandths millionths)
    (ap (λ (w : Option ℕ). told w thousandths millionths) (in_a refl))
one_part false true c d second third last whole thousandths millionths has in_a in_b in_c in_d = simp (in_b refl)
one_part false false true d second third last whole thousandths millionths has in_a in_b in_c in_d =
    simp (in_c refl) (none_third second (told whole thousandths millionths))
one_part false false false true second third last whole thousandths millionths has in_a in_b in_c in_d =
    simp (in_d refl) (none_last second third (told whole thousandths millionths))
one_part false false false false second third last whole thousandths millionths has in_a in_b in_c in_d = absurd (cc)

quoted_millionths : (minutes seconds thousandths : List ℕ) (rest : Option (List ℕ))
    → (has_quote minutes || (has_quote seconds || (has_quote thousandths || quote_if rest))) ≡ true
    → with_millionths minutes seconds thousandths rest ≡ []
quoted_millionths minutes seconds thousandths None has = refl
quoted_millionths minutes seconds thousandths (Some millionths) has =
    one_part (has_quote minutes) (has_quote seconds) (has_quote thousandths) (has_quote millionths)
    (are_digits 2 seconds) (are_digits 3 thousandths) (are_digits 3 millionths) (in_seconds (fitting_of minutes) (fitting_of seconds))
    thousandths millionths has
    (λ (in_a : has_quote minutes ≡ true).
    ap (λ (m : Option ℕ). in_seconds m (fitting_of seconds)) (no_fitting minutes in_a))
    (undigits 2 seconds) (undigits 3 thousandths) (undigits 3 millionths)

quoted_thousandths : (minutes seconds : List ℕ) (rest : Option (List ℕ))
    → (has_quote minutes || (has_quote seconds || quote_if rest)) ≡ true → with_thousandths minutes seconds rest ≡ []
quoted_thousandths minutes seconds None has = refl
quoted_thousandths minutes seconds (Some rest) has =
    quoted_millionths minutes seconds (parted point rest).front (parted point rest).rest
    (ap (λ (q : Bool). has_quote minutes || (has_quote seconds || q)) (sym (parted_quote point rest refl)) ∙ has)

quoted_seconds : (minutes : List ℕ) (rest : Option (List ℕ)) → (has_quote minutes || quote_if rest) ≡ true
    → with_seconds minutes rest ≡ []
quoted_seconds minutes None has = refl
quoted_seconds minutes (Some rest) has =
    quoted_thousandths minutes (parted point rest).front (parted point rest).rest
    (ap (λ (q : Bool). has_quote minutes || q) (sym (parted_quote point rest refl)) ∙ has)

pub no_time : (text : List ℕ) → has_quote text ≡ true → time_of text ≡ []
no_time text has =
    quoted_seconds (parted colon text).front (parted colon text).rest (sym (parted_quote colon text refl) ∙ has)
