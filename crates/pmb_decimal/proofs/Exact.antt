-- Where a quantity has no more digits after the point than may be written, its nearest decimal is
-- its own text. For the law `exact_decimals_are_texts`. A denominator that divides a power of ten
-- makes the units a whole number; the fewest such places leave a last digit that isn't 0, so the
-- zeros that go are those of the places more.
use Rattle.std.proofs.Common.{◌≡◌, ◌≢◌, ℕ, zero, suc, ◌+◌, ◌-◌, ◌*◌, ◌/◌, ◌%◌, ◌^◌, ◌<◌, ◌≤◌, Bool, true, false, inl}
use Rattle.std.proofs.Common.{inr, Some, None, ◌++◌, ℤ, pos, negsuc, unsigned_abs, refl, sym, ap, ◌∙◌, subst, arith}
use Rattle.std.specs.Fmt.{decimal}
use Rattle.std.specs.Int.{◌∣◌}
use Rattle.std.proofs.lemmas.Bool.{cases_Bool, cases_eq}
use Rattle.std.proofs.lemmas.Int.{ints}
use Rattle.std.proofs.lemmas.Nat.{div-add-mod', div-mul-add, mod-mul-add, mod_below, pow-add}
use Rattle.std.proofs.lemmas.Nat.Gcd.{dvd_of_mod-eq-zero}
use Rattle.std.proofs.Math.Nat.{pow-suc, mul-div_cancel, mul-mod_left, div-mul_cancel, mul-lt-mul_of_pos_right}
use Rattle.pmb_quantity.specs.Fraction.{Fraction, IsQuantity, gcd}
use Rattle.pmb_quantity.specs.QuantityText as own
use Rattle.pmb_quantity.specs.QuantityText.{first_of, places_of, minus, padded, spelling}
use Rattle.pmb_quantity.specs.Reading.{without_last_zeros}
use Rattle.pmb_quantity.proofs.DigitLemmas.{empty_test, empty_test_passes}
use Rattle.pmb_quantity.proofs.FractionLemmas.{IsGcd-gcd, gcd_step, gcd-scale, gcd_of_lowest}
use Rattle.pmb_quantity.proofs.TextLemmas.{fits_places, length-padded, ten_positive, places_of-is, first_of-passes}
use Rattle.pmb_quantity.proofs.TextLemmas.{first_of-fails, first_of-none}
use Rattle.pmb_decimal.specs.Decimal.{after_point, half_even, with_sign, magnitude_text, rounded_text}
use Rattle.pmb_decimal.proofs.DigitLemmas.{padded-zero_goes, padded-other_stays, after_point-some}
use Rattle.pmb_decimal.proofs.HalfEven.{half_even-down}
use Rattle.pmb_decimal.proofs.Text.{minus-negative, rounded-is}

-- ---- the places of a fraction
-- what a search finds passes the test, and nothing before it does
first_of-first : (test : ℕ → Bool) (from count found : ℕ) → first_of test from count ≡ Some found
    → (test found ≡ true) × ((k : ℕ) → from ≤ k → k < found → test k ≡ false)
first_of-first test from zero found is =
    absurd (let wrong : None ≡ Some found = sym (first_of-none test from 0 refl) ∙ is in cc)
first_of-first test from (suc count) found is =
    elim (cases_Bool (test from)) [
      | inl passes ↦ (let here : Some from ≡ Some found =
          sym (first_of-passes test from (suc count) (omega arith) passes) ∙ is in
          let same : from ≡ found = cc in
          (ap test (sym same) ∙ passes, λ k low high. absurd (omega arith)))
      | inr fails ↦ (let less : suc count - 1 ≡ count = omega arith in
          let later : first_of test (from + 1) count ≡ Some found = ap (first_of test (from + 1)) (sym less)
          ∙ sym (first_of-fails test from (suc count) (omega arith) fails) ∙ is in
          let rest = first_of-first test (from + 1) count found later in (
            rest.0,
            λ k low high. elim (cases_eq k from) [
              | inl same ↦ ap test same
                  ∙ fails
              | inr other ↦ rest.1 k (omega (arith, other)) high
            ],
          ))
    ]

-- that many places write the fraction exactly, and one less doesn't
record HasPlaces (d places : ℕ) : Type 0 where
  -- the power of ten is a multiple of the denominator, and the power before it is none
  exact : 10 ^ places % d ≡ 0
  fewest : 0 < places → 10 ^ (places - 1) % d ≢ 0

has_places : (d places : ℕ) → places_of d ≡ Some places → HasPlaces d places
has_places d places is =
    let found = first_of-first (fits_places d) 0 25 places (sym (places_of-is d) ∙ is) in
    record {
      exact = empty_test_passes (10 ^ places % d) found.0;
      fewest = λ some. empty_test (10 ^ (places - 1) % d) (found.1 (places - 1) (omega arith) (omega arith));
    }

-- ---- the digits after the point
-- zeros at the end go
zeros_go : (places more y : ℕ) → without_last_zeros (padded (places + more) (y * 10 ^ more))
    ≡ without_last_zeros (padded places y)
zeros_go places zero y =
    let index : places + 0 ≡ places = omega arith in
    let number : y * 10 ^ 0 ≡ y = omega arith in
    ap (λ i. without_last_zeros (padded i (y * 10 ^ 0))) index ∙ ap (λ m. without_last_zeros (padded places m)) number
zeros_go places (suc more) y =
    let index : places + suc more ≡ suc (places + more) = omega arith in
    let number : y * 10 ^ suc more ≡ y * 10 ^ more * 10 = ap (λ p. y * p) (pow-suc 10 more) ∙ omega arith in
    let last : y * 10 ^ suc more % 10 ≡ 0 = omega arith in
    let rest : y * 10 ^ suc more / 10 ≡ y * 10 ^ more = omega arith in
    ap (λ i. without_last_zeros (padded i (y * 10 ^ suc more))) index
    ∙ padded-zero_goes (places + more) (y * 10 ^ suc more) last
    ∙ ap (λ m. without_last_zeros (padded (places + more) m)) rest ∙ zeros_go places more y

-- the digits of a number stay where the last is not 0
stays : (places y : ℕ) → (0 < places → y % 10 ≢ 0) → after_point (without_last_zeros (padded places y))
    ≡ own.after_point places y
stays zero y other = refl
stays (suc places) y other =
    ap after_point (padded-other_stays places y (other (omega arith))) ∙ after_point-some (padded (suc places) y)
    (omega (arith, length-padded (suc places) y))

module _ (n d places more : ℕ) (positive : 0 < d) (lowest : gcd n d ≡ 1) (has : HasPlaces d places) where
  abbrev scale : ℕ
  scale = 10 ^ places / d

  abbrev part : ℕ
  part = n % d * scale

  power_is : d * scale ≡ 10 ^ places
  power_is = omega (arith, div-add-mod' (10 ^ places) d, has.exact)

  scale_positive : 0 < scale
  scale_positive =
      elim (cases_eq scale 0) [
        | inl none ↦ absurd (omega (arith, power_is, ap (λ x. d * x) none, ten_positive places))
        | inr some ↦ omega arith
      ]

  -- the last digit is not 0: else one place less would do
  scale_is_gcd : gcd part (d * scale) ≡ scale
  scale_is_gcd =
      let rest : gcd (n % d) d ≡ 1 = gcd_step (n % d) d positive ∙ ap (gcd d) (small_rest) ∙ sym (gcd_step n d positive)
      ∙ lowest in
      gcd-scale (n % d) d scale scale_positive ∙ ap (λ g. g * scale) rest ∙ omega arith
    where
      small_rest : n % d % d ≡ n % d
      small_rest = ap (λ m. m % d) (omega arith) ∙ mod-mul-add 0 d (n % d) (mod_below n d positive)

  last_digit : 0 < places → part % 10 ≢ 0
  last_digit some none =
      let before : suc (places - 1) ≡ places = omega arith in
      let power : 10 ^ places ≡ 10 ^ (places - 1) * 10 = ap (λ k. 10 ^ k) (sym before) ∙ pow-suc 10 (places - 1) in
      let of_part : 10 ∣ part = dvd_of_mod-eq-zero 10 none in
      let of_power : 10 ∣ (d * scale) = dvd_of_mod-eq-zero 10 (omega (arith, power_is, power)) in
      let of_scale : 10 ∣ scale = subst (λ (g : ℕ). 10 ∣ g) scale_is_gcd
      ((IsGcd-gcd part (d * scale)).2 10 of_part of_power) in
      let tenth : scale / 10 * 10 ≡ scale = div-mul_cancel 10 of_scale in
      let fewer : d * (scale / 10) ≡ 10 ^ (places - 1) = omega (arith, power_is, power, ap (λ x. d * x) tenth) in
      has.fewest some (ap (λ p. p % d) (sym fewer) ∙ multiple (scale / 10))
    where
      multiple : (k : ℕ) → d * k % d ≡ 0
      multiple k = ap (λ p. p % d) (omega arith) ∙ mul-mod_left k d

  -- the units are a whole number
  abbrev whole_units : ℕ
  whole_units = n * scale * 10 ^ more

  scaled_is : n * 10 ^ (places + more) ≡ whole_units * d
  scaled_is =
      ap (λ p. n * p) (pow-add 10 places more ∙ ap (λ p. p * 10 ^ more) (sym power_is)) ∙ omega arith

  rounded_units : half_even (n * 10 ^ (places + more)) d ≡ whole_units
  rounded_units =
      let none : whole_units * d % d ≡ 0 = mul-mod_left whole_units d in
      ap (λ m. half_even m d) scaled_is ∙ half_even-down (whole_units * d) d (omega (arith, none))
      ∙ mul-div_cancel whole_units positive

  -- .. of a whole part and a part
  units_are : whole_units ≡ n / d * 10 ^ (places + more) + part * 10 ^ more
  units_are =
      let split : n * scale ≡ n / d * (d * scale) + part = sym (ap (λ m. m * scale) (div-add-mod' n d)) ∙ omega arith in
      let whole : n / d * (d * scale) * 10 ^ more ≡ n / d * 10 ^ (places + more) =
      ap (λ p. n / d * p * 10 ^ more) power_is ∙ omega (arith, ap (λ p. n / d * p) (pow-add 10 places more)) in
      ap (λ m. m * 10 ^ more) split ∙ omega (arith, whole)

  part_below : part * 10 ^ more < 10 ^ (places + more)
  part_below =
      let below : part < d * scale = mul-lt-mul_of_pos_right (mod_below n d positive) scale_positive in
      let scaled : part * 10 ^ more < d * scale * 10 ^ more = mul-lt-mul_of_pos_right below (ten_positive more) in
      omega (arith, scaled, pow-add 10 places more, ap (λ p. p * 10 ^ more) power_is)

  exact_magnitude : magnitude_text (places + more) whole_units ≡ own.magnitude_text n d (Some places)
  unfolding magnitude_text
  exact_magnitude =
      let power = 10 ^ (places + more) in
      let whole : whole_units / power ≡ n / d = ap (λ m. m / power) units_are
      ∙ div-mul-add (n / d) power (part * 10 ^ more) part_below in
      let rest : whole_units % power ≡ part * 10 ^ more = ap (λ m. m % power) units_are
      ∙ mod-mul-add (n / d) power (part * 10 ^ more) part_below in
      ap (λ w. decimal w ++ after_point (without_last_zeros (padded (places + more) (whole_units % power)))) whole
      ∙ ap (λ r. decimal (n / d) ++ after_point (without_last_zeros (padded (places + more) r))) rest
      ∙ ap (λ ds. decimal (n / d) ++ after_point ds) (zeros_go places more part)
      ∙ ap (λ text. decimal (n / d) ++ text) (stays places part last_digit)

  units_positive : 0 < n → 0 < whole_units
  units_positive some =
      let scaled : 0 < n * scale = omega (arith, mul-lt-mul_of_pos_right {m = 0} {n = n} some scale_positive) in
      omega (arith, mul-lt-mul_of_pos_right {m = 0} {n = n * scale} scaled (ten_positive more))

-- the sign is that of the fraction
same_sign : (z : ℤ) (units : ℕ) → (0 < unsigned_abs z → 0 < units) → minus (with_sign z units) ≡ minus z
same_sign (pos n) units some = refl
same_sign (negsuc n) units some = minus-negative (negsuc n) units (omega (arith, ints)) (some (omega arith))

pub exact_is_spelling : (digits : ℕ) (q : Fraction) → IsQuantity q → (places : ℕ)
    → places_of q.denominator ≡ Some places → places ≤ digits → rounded_text digits q ≡ spelling q
unfolding spelling
exact_is_spelling digits q quantity places is enough =
    let n = unsigned_abs q.numerator in
    let d = q.denominator in
    let more = digits - places in
    let has = has_places d places is in
    let lowest = gcd_of_lowest q quantity.lowest in
    let all : places + more ≡ digits = omega arith in
    let units = whole_units n d places more quantity.positive lowest has in
    let rounded : units ≡ half_even (n * 10 ^ (places + more)) d =
    sym (rounded_units n d places more quantity.positive lowest has) in
    ap (λ k. rounded_text k q) (sym all)
    ∙ rounded-is (places + more) q units rounded
    ∙ ap (λ s. s ++ magnitude_text (places + more) units)
    (same_sign q.numerator units (units_positive n d places more quantity.positive lowest has))
    ∙ ap (λ t. minus q.numerator ++ t) (exact_magnitude n d places more quantity.positive lowest has)
    ∙ ap (λ p. minus q.numerator ++ own.magnitude_text n d p) (sym is)
