-- The digits of a whole number: they are a number of JSON, and two of them come from a table at a
-- time. For `append_number`, `append_pair`, `append_two` and `append_four` of `src/number.rt`, and
-- the law `digits_are_a_number`. The table `PAIRS` is computed for all numbers below a hundred; 48
-- is the digit 0, and 57 the digit 9.
use Rattle.std.proofs.Common.{◌≡◌, ℕ, zero, suc, ◌+◌, ◌*◌, ◌/◌, ◌%◌, ◌^◌, ◌<◌, ◌≤◌, ◌==◌, ◌&&◌, Bool, List, [], ◌∷◌}
use Rattle.std.proofs.Common.{◌++◌, length, get_or, decimal, refl, sym, ap, ◌∙◌, subst, append_assoc, arith, inl, inr}
use Rattle.std.proofs.lemmas.Bool.{le-leb, and_from, and_parts, eqb-true}
use Rattle.std.proofs.lemmas.List.{append-nil}
use Rattle.std.proofs.lemmas.Fmt.{decimal_is_IsNumeral, decimal_digit, decimal_step, first_decimal}
use Rattle.std.proofs.lemmas.Str.Parse.{digit_at}
use Rattle.pmb_json_text.specs.Json.{AreDigits, IsWhole, IsNumber}
use Rattle.pmb_json_text.specs.declared.number.TheConstants.{PAIRS}
use Rattle.pmb_json_text.proofs.Plain.{below}

all_digits : (digits : List ℕ) → ((i : ℕ) → i < length digits → (48 ≤ get_or digits i 0) × (get_or digits i 0 ≤ 57))
    → AreDigits digits
all_digits [] each = tt
all_digits (d ∷ more) each =
    let first = each 0 (omega arith) in
    (and_from _ _ (le-leb 48 d first.0) (le-leb d 57 first.1), all_digits more (λ i less. each (suc i) (omega arith)))

above_zero : (digits : List ℕ) → 48 < get_or digits 0 0 → AreDigits digits → IsWhole digits
above_zero [] first all = absurd (omega arith)
above_zero (d ∷ more) first all = inr ((λ same. omega (arith, first, same)), all)

pub whole_decimal : (n : ℕ) → n < 2 ^ 64 → IsWhole (decimal n)
whole_decimal zero less = subst IsWhole (sym (decimal_digit 0 (omega arith))) (inl refl)
whole_decimal (suc n) less =
    above_zero (decimal (suc n)) (first_decimal (suc n) (omega arith) less)
    (all_digits _ (λ i within. digit_at _ i (decimal_is_IsNumeral (suc n) less).0.1 within))

pub number_decimal : (n : ℕ) → n < 2 ^ 64 → IsNumber (decimal n)
number_decimal n less = record {
  minus = [];
  whole = decimal n;
  fraction = [];
  exponent = [];
  is_minus = inl refl;
  is_whole = whole_decimal n less;
  is_fraction = inl refl;
  is_exponent = inl refl;
  parts = sym (append-nil (decimal n));
}

-- ---- two digits at a time

-- the two digits of a number below a hundred
abbrev pub pair : ℕ → List ℕ
pair n = (48 + n / 10) ∷ (48 + n % 10) ∷ []

abbrev is_pair : ℕ → Bool
is_pair n = (get_or PAIRS (n * 2) 0 == 48 + n / 10) && (get_or PAIRS (n * 2 + 1) 0 == 48 + n % 10)

-- by the table
pub pair_read : (n : ℕ) → n < 100 → (get_or PAIRS (n * 2) 0 ≡ 48 + n / 10) × (get_or PAIRS (n * 2 + 1) 0 ≡ 48 + n % 10)
pair_read n less =
    let here = and_parts (get_or PAIRS (n * 2) 0 == 48 + n / 10) (get_or PAIRS (n * 2 + 1) 0 == 48 + n % 10)
    (below is_pair 100 n refl less) in
    (eqb-true (get_or PAIRS (n * 2) 0) (48 + n / 10) here.0, eqb-true (get_or PAIRS (n * 2 + 1) 0) (48 + n % 10) here.1)

pub decimal_of_two : (n : ℕ) → 10 ≤ n → n < 100 → decimal n ≡ pair n
decimal_of_two n least less = rw (decimal_step n least (omega arith), decimal_digit (n / 10) (omega arith))

-- the last two
pub decimal_by_pair : (n : ℕ) → 100 ≤ n → n < 2 ^ 64 → decimal n ≡ decimal (n / 100) ++ pair (n % 100)
decimal_by_pair n least fits =
    let front : n / 10 / 10 ≡ n / 100 = omega arith in
    let tens : n / 10 % 10 ≡ n % 100 / 10 = omega arith in
    let ones : n % 10 ≡ n % 100 % 10 = omega arith in
    rw (
      decimal_step n (omega arith) fits,
      decimal_step (n / 10) (omega arith) (omega arith),
      append_assoc,
      front,
      tens,
      ← ones,
    )

-- a number after other bytes: what comes before its last two digits, and these
pub number_appended : (n : ℕ) (old : List ℕ) {middle new : List ℕ} → 100 ≤ n → n < 2 ^ 64
    → middle ≡ old ++ decimal (n / 100) → new ≡ middle ++ pair (n % 100)
    → new ≡ old ++ decimal n
number_appended n old {middle} {new} least fits front last =
    last ∙ ap (λ (t : List ℕ). t ++ pair (n % 100)) front ∙ append_assoc old (decimal (n / 100)) (pair (n % 100))
    ∙ ap (λ (t : List ℕ). old ++ t) (sym (decimal_by_pair n least fits))
