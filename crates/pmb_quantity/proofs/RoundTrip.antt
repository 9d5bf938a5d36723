-- A quantity's text reads back as that quantity: the law `text_reads_back`. Written as a decimal,
-- digits around a point make the same fraction times a power of ten; written with a slash, the two
-- numbers are read as they are. Zeros that reading drops change no value (`Shortened`).
use Rattle.std.proofs.Common.{◌≡◌, ℕ, zero, suc, ◌+◌, ◌-◌, ◌*◌, ◌/◌, ◌%◌, ◌^◌, ◌<◌, ◌≤◌, Bool, true, cond, ◌&&◌, eq-eqb}
use Rattle.std.proofs.Common.{List, [], ◌∷◌, ◌++◌, length, inl, inr, Option, Some, None, Result, Ok, ℤ, pos, negsuc}
use Rattle.std.proofs.Common.{unsigned_abs, refl, sym, ap, ◌∙◌, subst, arith}
use Rattle.std.specs.Char.{is_ascii_digit, digit_value}
use Rattle.std.specs.Fmt.{decimal}
use Rattle.std.specs.List.{prefix_len, list_all}
use Rattle.std.specs.Str.Parse.{AllDigits, IsNumeral, digits_value, digits_value_after}
use Rattle.std.proofs.lemmas.Bool.{cases_Bool, cases_eq, ne_eqb}
use Rattle.std.proofs.lemmas.Bool.Decides.{nat_tests}
use Rattle.std.proofs.lemmas.Fmt.{decimal_is_IsNumeral}
use Rattle.std.proofs.lemmas.Int.Digits.{digits_value_push}
use Rattle.std.proofs.Math.Nat.{pow-suc, div-one, mul-lt-mul_of_pos_right}
use Rattle.std.proofs.Math.Seq.{take-append_seam, drop-append_seam}
use Rattle.std.proofs.lemmas.Nat.{mod_below, div-add-mod'}
use Rattle.pmb_quantity.specs.declared.quantity.QuantityFault.{QuantityFault}
use Rattle.pmb_quantity.specs.Fraction.{Fraction, IsQuantity, gcd, lowest_terms}
use Rattle.pmb_quantity.specs.Quantity.{fitted, negated}
use Rattle.pmb_quantity.specs.QuantityText.{first_of, places_of, minus, padded, after_point, magnitude_text, spelling}
use Rattle.pmb_quantity.specs.Reading.{point, slash, are_digits, numeral_parts, numeral_of, without_last_zeros}
use Rattle.pmb_quantity.specs.Reading.{with_last, point_value, numeral_value, reading}
use Rattle.pmb_quantity.proofs.DigitLemmas.{empty_test_passes, test_of_digit, numeral_of-parts}
use Rattle.pmb_quantity.proofs.Fitted.{lowest-fits}
use Rattle.pmb_quantity.proofs.FractionLemmas.{gcd_of_lowest}
use Rattle.pmb_quantity.proofs.ReadingLemmas.{none_some, lowest_terms-scale, point-is, slash-is, reading-minus}
use Rattle.pmb_quantity.proofs.ReadingLemmas.{reading-plus}
use Rattle.pmb_quantity.proofs.TextLemmas.{fits_places, length-padded, ten_positive, places_of-is, first_of-passes}
use Rattle.pmb_quantity.proofs.TextLemmas.{first_of-fails, first_of-none}

-- ---- digits
-- a written digit and its value
digit_value-written : (r : ℕ) → r < 10 → digit_value (48 + r) ≡ r
digit_value-written r small = grind (arith, nat_tests)

-- digits and one more
AllDigits-push : (ds : List ℕ) (c : ℕ) → AllDigits 10 ds → digit_value c < 10 → AllDigits 10 (ds ++ c ∷ [])
AllDigits-push [] c digits digit = (digit, tt)
AllDigits-push (d ∷ ds) c digits digit = (digits.0, AllDigits-push ds c digits.1 digit)

-- a number in so many digits is digits
AllDigits-padded : (places n : ℕ) → AllDigits 10 (padded places n)
AllDigits-padded zero n = tt
AllDigits-padded (suc places) n =
    let last : digit_value (48 + n % 10) < 10 = omega (arith, digit_value-written (n % 10) (omega arith)) in
    AllDigits-push (padded places (n / 10)) (48 + n % 10) (AllDigits-padded places (n / 10)) last

-- they write the number where it has no more
digits_value-padded : (places n : ℕ) → n < 10 ^ places → digits_value 10 (padded places n) ≡ n
digits_value-padded zero n few = omega arith
digits_value-padded (suc places) n few =
    let front_few : n / 10 < 10 ^ places = omega (arith, pow-suc 10 places) in
    let front : digits_value 10 (padded places (n / 10)) ≡ n / 10 = digits_value-padded places (n / 10) front_few in
    digits_value_push 10 (padded places (n / 10)) (48 + n % 10)
    ∙ omega (arith, front, digit_value-written (n % 10) (omega arith))

-- digits pass the test for digits
list_all-digits : (ds : List ℕ) → AllDigits 10 ds → list_all is_ascii_digit ds ≡ true
list_all-digits [] digits = refl
list_all-digits (d ∷ ds) digits = ap (λ b. b && list_all is_ascii_digit ds) (test_of_digit d digits.0)
    ∙ list_all-digits ds digits.1

-- so does a numeral that test for one or more
are_digits-numeral : (ds : List ℕ) → IsNumeral 10 ds → are_digits ds ≡ true
are_digits-numeral [] numeral = absurd (omega (arith, numeral.0))
are_digits-numeral (d ∷ ds) numeral = list_all-digits (d ∷ ds) numeral.1

-- digits end where something else begins
prefix_len-digits : (front rest : List ℕ) → AllDigits 10 front → prefix_len is_ascii_digit rest ≡ 0
    → prefix_len is_ascii_digit (front ++ rest) ≡ length front
prefix_len-digits [] rest digits stops = stops
prefix_len-digits (d ∷ ds) rest digits stops =
    let more : 1 + prefix_len is_ascii_digit (ds ++ rest) ≡ suc (length ds) =
    omega (arith, prefix_len-digits ds rest digits.1 stops) in
    ap (λ b. cond b (1 + prefix_len is_ascii_digit (ds ++ rest)) 0) (test_of_digit d digits.0) ∙ more

-- what a text writes that begins with digits
numeral_of-split : (front rest : List ℕ) → AllDigits 10 front → prefix_len is_ascii_digit rest ≡ 0
    → numeral_of (front ++ rest) ≡ numeral_parts front rest
numeral_of-split front rest digits stops =
    numeral_of-parts (front ++ rest) (length front) front rest (sym (prefix_len-digits front rest digits stops))
    (sym (take-append_seam front rest)) (sym (drop-append_seam front rest))

-- digits, a point and digits
parts-point : (front back : List ℕ) → 0 < length front → are_digits back ≡ true
    → numeral_parts front (46 ∷ back) ≡ Some (point front back)
parts-point [] back some digits = absurd (omega arith)
parts-point (d ∷ ds) back some digits = ap (λ b. cond b (Some (point (d ∷ ds) back)) None) digits

-- digits, a slash and digits
parts-slash : (front back : List ℕ) → 0 < length front → are_digits back ≡ true
    → numeral_parts front (47 ∷ back) ≡ Some (slash front back)
parts-slash [] back some digits = absurd (omega arith)
parts-slash (d ∷ ds) back some digits = ap (λ b. cond b (Some (slash (d ∷ ds) back)) None) digits

-- digits alone
parts-whole : (front : List ℕ) → 0 < length front → numeral_parts front [] ≡ Some (point front [])
parts-whole [] some = absurd (omega arith)
parts-whole (d ∷ ds) some = refl

-- ---- zeros at the end Both the number of the digits and its power of ten are a factor more than
-- those of the digits that are kept.
record Shortened (ds kept : List ℕ) : Type 0 where
  -- the digits that go are worth this factor,
  factor : ℕ
  positive : 0 < factor
  shorter : length kept ≤ length ds
  -- which the power of ten has more,
  scale : 10 ^ length ds ≡ 10 ^ length kept * factor
  -- and so has the number
  value : (n : ℕ) → digits_value_after 10 n ds ≡ digits_value_after 10 n kept * factor

-- the factor stays where both are longer by a digit
longer : (ds kept : List ℕ) (factor : ℕ) → 10 ^ length ds ≡ 10 ^ length kept * factor
    → 10 ^ suc (length ds) ≡ 10 ^ suc (length kept) * factor
longer ds kept factor scale =
    let product : 10 ^ suc (length kept) * factor ≡ 10 ^ length kept * 10 * factor =
    ap (λ p. p * factor) (pow-suc 10 (length kept)) in
    omega (arith, pow-suc 10 (length ds), product, scale)

-- a digit that stays
shortened-stays : (d : ℕ) (ds kept : List ℕ) → Shortened ds kept → Shortened (d ∷ ds) (d ∷ kept)
shortened-stays d ds kept rest = record {
  factor = rest.factor;
  positive = rest.positive;
  shorter = omega (arith, rest.shorter);
  scale = longer ds kept rest.factor rest.scale;
  value = λ n. rest.value (n * 10 + digit_value d);
}

-- a zero with none but zeros after it
shortened-goes : (d : ℕ) (ds : List ℕ) → d ≡ 48 → Shortened ds [] → Shortened (d ∷ ds) []
shortened-goes d ds is_zero rest = record {
  factor = 10 * rest.factor;
  positive = omega (arith, rest.positive);
  shorter = omega arith;
  scale = omega (arith, pow-suc 10 (length ds), rest.scale);
  value = λ n. rest.value (n * 10 + digit_value d)
      ∙ omega (arith, ap (λ x. (n * 10 + digit_value x) * rest.factor) is_zero);
}

-- either of them
shortened_by_one : (d : ℕ) (ds kept : List ℕ) → Shortened ds kept → Shortened (d ∷ ds) (with_last d kept)
shortened_by_one d ds (e ∷ es) rest = shortened-stays d ds (e ∷ es) rest
shortened_by_one d ds [] rest =
    elim (cases_eq d 48) [
      | inl is_zero ↦ subst (Shortened (d ∷ ds)) (ap (λ b. cond b [] (d ∷ [])) (sym (eq-eqb d 48 is_zero)))
          (shortened-goes d ds is_zero rest)
      | inr other ↦ subst (Shortened (d ∷ ds)) (ap (λ b. cond b [] (d ∷ [])) (sym (ne_eqb d 48 other)))
          (shortened-stays d ds [] rest)
    ]

-- the zeros at the end are such a factor
shortened : (ds : List ℕ) → Shortened ds (without_last_zeros ds)
shortened [] = record {
  factor = 1;
  positive = omega arith;
  shorter = omega arith;
  scale = refl;
  value =
      λ n. omega arith;
}
shortened (d ∷ ds) = shortened_by_one d ds (without_last_zeros ds) (shortened ds)

-- so digits around a point write their number, all of them or without the zeros
point_value-whole : (front back : List ℕ) → length back ≤ 24
    → point_value front back ≡ fitted (lowest_terms
    (pos (digits_value 10 front * 10 ^ length back + digits_value 10 back)) (10 ^ length back))
point_value-whole front back short =
    let kept = without_last_zeros back in
    let few = shortened back in
    let number = digits_value 10 front * 10 ^ length kept + digits_value 10 kept in
    let number_is : number * few.factor ≡ digits_value 10 front * 10 ^ length back + digits_value 10 back =
    omega (arith, few.value 0, ap (λ x. digits_value 10 front * x) few.scale) in
    let made : ℕ → ℕ → Result Fraction QuantityFault = λ (n d : ℕ). fitted (lowest_terms (pos n) d) in
    point-is front back kept refl (omega (arith, few.shorter))
    ∙ ap fitted (sym (lowest_terms-scale number (10 ^ length kept) few.factor
    (ten_positive (length kept)) few.positive)) ∙ ap (λ n. made n (10 ^ length kept * few.factor)) number_is
    ∙ ap (made (digits_value 10 front * 10 ^ length back + digits_value 10 back)) (sym few.scale)

-- ---- the number of places
-- what a search finds passes the test, and lies within
first_of-finds : (test : ℕ → Bool) (from count found : ℕ) → first_of test from count ≡ Some found
    → (test found ≡ true) × (found < from + count)
first_of-finds test from zero found is = absurd (none_some (sym (first_of-none test from 0 refl) ∙ is))
first_of-finds test from (suc count) found is =
    elim (cases_Bool (test from)) [
      | inl passes ↦ (let here : Some from ≡ Some found =
          sym (first_of-passes test from (suc count) (omega arith) passes) ∙ is in
          let same : from ≡ found = cc in
          (ap test (sym same) ∙ passes, omega arith))
      | inr fails ↦ (let less : suc count - 1 ≡ count = omega arith in
          let later : first_of test (from + 1) count ≡ Some found = ap (first_of test (from + 1)) (sym less)
          ∙ sym (first_of-fails test from (suc count) (omega arith) fails) ∙ is in
          let rest = first_of-finds test (from + 1) count found later in
          (rest.0, omega (arith, rest.1)))
    ]

-- in so many places the fraction is exact
places_of-divides : (d places : ℕ) → places_of d ≡ Some places → (10 ^ places % d ≡ 0) × (places ≤ 24)
places_of-divides d places is =
    let found = first_of-finds (fits_places d) 0 25 places (sym (places_of-is d) ∙ is) in
    (empty_test_passes (10 ^ places % d) found.0, omega (arith, found.1))

-- ---- the numeral
-- digits, and so many after a point
numeral_of-point : (front : List ℕ) (places n : ℕ) → IsNumeral 10 front → numeral_of (front ++ after_point places n)
    ≡ Some (point front (padded places n))
numeral_of-point front zero n numeral = numeral_of-split front [] numeral.1 refl ∙ parts-whole front numeral.0
numeral_of-point front (suc places) n numeral =
    let back = padded (suc places) n in
    let some : 0 < length back = omega (arith, length-padded (suc places) n) in
    numeral_of-split front (46 ∷ back) numeral.1 refl
    ∙ parts-point front back numeral.0 (are_digits-numeral back (some, AllDigits-padded (suc places) n))

-- digits, a slash and digits
numeral_of-slash : (front back : List ℕ) → IsNumeral 10 front → IsNumeral 10 back
    → numeral_of (front ++ (47 ∷ back)) ≡ Some (slash front back)
numeral_of-slash front back numeral denominator =
    numeral_of-split front (47 ∷ back) numeral.1 refl
    ∙ parts-slash front back numeral.0 (are_digits-numeral back denominator)

-- a text that begins with a digit has no sign
reading-unsigned : (front rest : List ℕ) → IsNumeral 10 front
    → reading (front ++ rest) ≡ numeral_value (numeral_of (front ++ rest))
reading-unsigned [] rest numeral = absurd (omega (arith, numeral.0))
reading-unsigned (d ∷ ds) rest numeral =
    reading-plus (d ∷ ds ++ rest) d (ds ++ rest) refl
    (λ minus_sign. absurd (omega (arith, numeral.1.0, ap digit_value minus_sign)))

-- ---- a fraction in lowest terms
module _ (n d : ℕ) (n_fits : n < 2 ^ 62) (d_fits : d < 2 ^ 62) (positive : 0 < d) (lowest : gcd n d ≡ 1) where
  -- its lowest terms are itself
  stays : fitted (lowest_terms (pos n) d) ≡ Ok (record { numerator = pos n; denominator = d })
  stays =
      let made : ℕ → ℕ → Result Fraction QuantityFault =
      λ (x y : ℕ). Ok (record { numerator = pos x; denominator = y }) in
      let n_is : n / gcd n d ≡ n = ap (λ g. n / g) lowest ∙ div-one n in
      let d_is : d / gcd n d ≡ d = ap (λ g. d / g) lowest ∙ div-one d in
      lowest-fits n d (omega (arith, n_is)) (omega (arith, d_is)) ∙ ap (λ x. made x (d / gcd n d)) n_is
      ∙ ap (made n) d_is

  -- by the decimal of so many places
  reads-point : (places : ℕ) → (10 ^ places % d ≡ 0) × (places ≤ 24)
      → numeral_value (numeral_of (magnitude_text n d (Some places)))
      ≡ Ok (record { numerator = pos n; denominator = d })
  reads-point places exact =
      -- the text has the whole part, and `places` digits of the rest
      let unit = 10 ^ places / d in
      let after = n % d * unit in
      let front = decimal_is_IsNumeral (n / d) (omega arith) in
      -- 10^places is the denominator times `unit`
      let power_is : d * unit ≡ 10 ^ places = omega (arith, div-add-mod' (10 ^ places) d, exact.0) in
      let unit_positive : 0 < unit =
      elim (cases_eq unit 0) [
        | inl none ↦ absurd (omega (arith, power_is, ap (λ x. d * x) none, ten_positive places))
        | inr some ↦ omega arith
      ] in
      -- the rest is a number of `places` digits
      let after_small : after < 10 ^ places = omega
      (arith, power_is, mul-lt-mul_of_pos_right (mod_below n d positive) unit_positive) in
      let back_is : digits_value 10 (padded places after) ≡ after = digits_value-padded places after after_small in
      let length_is : length (padded places after) ≡ places = length-padded places after in
      -- together the digits are the numerator times `unit`,
      let number_is : n / d * 10 ^ places + after ≡ n * unit =
      omega (arith, ap (λ x. n / d * x) power_is, ap (λ x. x * unit) (div-add-mod' n d)) in
      let made : ℕ → ℕ → Result Fraction QuantityFault = λ (x y : ℕ). fitted (lowest_terms (pos x) y) in
      -- so they read as that over 10^places, of which `unit` goes out
      ap numeral_value (numeral_of-point (decimal (n / d)) places after front.0) ∙ point_value-whole (decimal (n / d))
      (padded places after) (omega (arith, length_is, exact.1))
      ∙ ap (λ x. made (digits_value 10 (decimal (n / d)) * 10 ^ x + digits_value 10 (padded places after)) (10 ^ x))
      length_is
      ∙ ap (λ x. made (x * 10 ^ places + digits_value 10 (padded places after)) (10 ^ places)) front.1
      ∙ ap (λ x. made (n / d * 10 ^ places + x) (10 ^ places)) back_is
      ∙ ap (λ x. made x (10 ^ places)) number_is
      ∙ ap (made (n * unit)) (sym power_is)
      ∙ ap fitted (lowest_terms-scale n d unit positive unit_positive)
      ∙ stays

  -- by numerator and denominator
  reads-slash : numeral_value (numeral_of (magnitude_text n d None))
      ≡ Ok (record { numerator = pos n; denominator = d })
  reads-slash =
      let front = decimal_is_IsNumeral n (omega arith) in
      let back = decimal_is_IsNumeral d (omega arith) in
      let made : ℕ → ℕ → Result Fraction QuantityFault = λ (x y : ℕ). fitted (lowest_terms (pos x) y) in
      ap numeral_value (numeral_of-slash (decimal n) (decimal d) front.0 back.0)
      ∙ slash-is (decimal n) (decimal d) (λ none. omega (arith, back.1)) (omega (arith, front.1))
      (omega (arith, back.1))
      ∙ ap (λ x. made x (digits_value 10 (decimal d))) front.1
      ∙ ap (made n) back.1
      ∙ stays

  -- by either
  reads-magnitude : (places : Option ℕ) → places_of d ≡ places → numeral_value (numeral_of (magnitude_text n d places))
      ≡ Ok (record { numerator = pos n; denominator = d })
  reads-magnitude (Some places) is = reads-point places (places_of-divides d places is)
  reads-magnitude None is = reads-slash

-- the text of a magnitude begins with a digit
reading-magnitude : (n d : ℕ) → n < 2 ^ 62 → (places : Option ℕ) → reading (magnitude_text n d places)
    ≡ numeral_value (numeral_of (magnitude_text n d places))
reading-magnitude n d n_fits (Some places) =
    let small : n / d < 2 ^ 64 = omega arith in
    reading-unsigned (decimal (n / d)) (after_point places (n % d * (10 ^ places / d)))
    (decimal_is_IsNumeral (n / d) small).0
reading-magnitude n d n_fits None = reading-unsigned (decimal n) (47 ∷ decimal d)
    (decimal_is_IsNumeral n (omega arith)).0

-- by the sign
reads_signed : (z : ℤ) (d : ℕ) → IsQuantity (record { numerator = z; denominator = d })
    → reading (minus z ++ magnitude_text (unsigned_abs z) d (places_of d))
    ≡ Ok (record { numerator = z; denominator = d })
reads_signed (pos n) d is =
    reading-magnitude n d is.numerator_fits (places_of d)
    ∙ reads-magnitude n d is.numerator_fits is.denominator_fits is.positive
    (gcd_of_lowest (record { numerator = pos n; denominator = d }) is.lowest) (places_of d) refl
reads_signed (negsuc n) d is =
    let text = magnitude_text (suc n) d (places_of d) in
    reading-minus (45 ∷ text) 45 text refl refl
    ∙ ap negated (reads-magnitude (suc n) d is.numerator_fits is.denominator_fits is.positive
    (gcd_of_lowest (record { numerator = negsuc n; denominator = d }) is.lowest) (places_of d) refl)

-- each quantity
pub reads_back : (q : Fraction) → IsQuantity q → reading (spelling q) ≡ Ok q
unfolding spelling
reads_back q is = reads_signed q.numerator q.denominator is
