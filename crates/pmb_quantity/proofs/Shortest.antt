-- No shorter decimal reads as the quantity that a text writes: the law `text_is_shortest`. A
-- decimal with k digits after its point makes a denominator that goes into 10^k;
-- the text uses the least such power, and no more digits before the point than the whole part has.
use Rattle.std.proofs.Common.{◌≡◌, ◌≢◌, ℕ, zero, suc, ◌+◌, ◌-◌, ◌*◌, ◌/◌, ◌%◌, ◌^◌, ◌<◌, ◌≤◌, ◌⊎◌, inl, inr, Bool, true}
use Rattle.std.proofs.Common.{false, cond, ◌==◌, eq-eqb, List, [], ◌∷◌, ◌++◌, codes, length, length-append, take, drop}
use Rattle.std.proofs.Common.{Option, Some, None, Result, Ok, Err, ℤ, pos, negsuc, neg_ℤ, unsigned_abs, refl, sym, ap}
use Rattle.std.proofs.Common.{◌∙◌, subst, arith}
use Rattle.std.specs.Char.{is_ascii_digit, digit_value}
use Rattle.std.specs.Fmt.{decimal}
use Rattle.std.specs.List.{prefix_len}
use Rattle.std.specs.Str.Parse.{AllDigits, digits_value}
use Rattle.std.specs.Int.{◌∣◌}
use Rattle.std.proofs.lemmas.Bool.{cases_Bool, cases_eq, cases_lt, ne_eqb, false≢true}
use Rattle.std.proofs.lemmas.Fmt.{length-decimal-le}
use Rattle.std.proofs.lemmas.Int.Digits.{digits_value-lt}
use Rattle.std.proofs.lemmas.List.{take-append-drop}
use Rattle.std.proofs.lemmas.Nat.{div-mul-add, div-add-mod', mod_below}
use Rattle.std.proofs.lemmas.Nat.Gcd.{mod-eq-zero_of_dvd}
use Rattle.std.proofs.Math.Nat.{div-le_self, div-mul_cancel, dvd-mul_right, mul-lt-mul_of_pos_right}
use Rattle.pmb_quantity.specs.declared.quantity.QuantityFault.{QuantityFault}
use Rattle.pmb_quantity.specs.declared.quantity.QuantityFault.TheVariants.{Empty, BadDigit, TooLarge}
use Rattle.pmb_quantity.specs.Fraction.{Fraction, gcd, lowest_terms}
use Rattle.pmb_quantity.specs.Laws.{IsDecimal}
use Rattle.pmb_quantity.specs.Quantity.{fitted, negative, negated}
use Rattle.pmb_quantity.specs.QuantityText.{first_of, places_of, minus, after_point, magnitude_text, spelling}
use Rattle.pmb_quantity.specs.Reading.{point, slash, are_digits, marked, numeral_parts, numeral_of, without_last_zeros}
use Rattle.pmb_quantity.specs.Reading.{with_last, point_value, numeral_value, reading}
use Rattle.pmb_quantity.proofs.DigitLemmas.{AllDigits-prefix, digits_of_test}
use Rattle.pmb_quantity.proofs.Fitted.{fitted-fits, fitted-numerator, fitted-denominator, unsigned_abs-neg}
use Rattle.pmb_quantity.proofs.FractionLemmas.{IsGcd-gcd, quotient_positive}
use Rattle.pmb_quantity.proofs.ReadingLemmas.{point-long, point-is, reading-none, reading-minus, reading-plus}
use Rattle.pmb_quantity.proofs.TextLemmas.{fits_places, length-padded, ten_positive, places_of-is, first_of-passes}
use Rattle.pmb_quantity.proofs.TextLemmas.{first_of-fails}

-- ---- the first number that passes a test
first_of-least : (test : ℕ → Bool) (from count k : ℕ) → from ≤ k → k < from + count → test k ≡ true
    → (j : ℕ) × (first_of test from count ≡ Some j) × (j ≤ k)
first_of-least test from zero k low high passes = absurd (omega arith)
first_of-least test from (suc count) k low high passes =
    elim (cases_Bool (test from)) [
      | inl here ↦ (from, first_of-passes test from (suc count) (omega arith) here, low)
      | inr fails ↦ (let other : from ≢ k = λ same. false≢true (sym fails ∙ ap test same ∙ passes) in
          let rest = first_of-least test (from + 1) count k (omega (arith, other)) (omega arith) passes in
          let less : suc count - 1 ≡ count = omega arith in (
            rest.0,
            first_of-fails test from (suc count) (omega arith) fails ∙ ap (first_of test (from + 1)) less
                ∙ rest.1,
            rest.2,
          ))
    ]

-- ---- the digits that are kept after a point
kept_by_one : (d : ℕ) (ds rest : List ℕ) → digit_value d < 10 → AllDigits 10 rest → length rest ≤ length ds
    → AllDigits 10 (with_last d rest) × (length (with_last d rest) ≤ length (d ∷ ds))
kept_by_one d ds (e ∷ es) digit digits short = ((digit, digits), omega (arith, short))
kept_by_one d ds [] digit digits short =
    elim (cases_Bool (d == 48)) [
      | inl zero_digit ↦
          let P : List ℕ → Type 0 = λ l. AllDigits 10 l × (length l ≤ length (d ∷ ds)) in
          subst P (ap (λ b. cond b [] (d ∷ [])) (sym zero_digit)) (tt, omega arith)
      | inr other ↦
          let P : List ℕ → Type 0 = λ l. AllDigits 10 l × (length l ≤ length (d ∷ ds)) in
          subst P (ap (λ b. cond b [] (d ∷ [])) (sym other)) ((digit, tt), omega arith)
    ]

kept_digits : (ds : List ℕ) → AllDigits 10 ds → AllDigits 10 (without_last_zeros ds)
    × (length (without_last_zeros ds) ≤ length ds)
kept_digits [] digits = (tt, omega arith)
kept_digits (d ∷ ds) digits =
    let rest = kept_digits ds digits.1 in
    kept_by_one d ds (without_last_zeros ds) digits.0 rest.0 rest.1

-- ---- the length of what is written
length-after_point : (places n room : ℕ) → (0 < places → places + 1 ≤ room) → length (after_point places n) ≤ room
length-after_point zero n room fits = omega arith
length-after_point (suc places) n room fits = omega (arith, fits (omega arith), length-padded (suc places) n)

-- a common divisor changes no whole part
whole_part : (n d g : ℕ) → 0 < d → g ∣ n → g ∣ d → n / g / (d / g) ≡ n / d
whole_part n d g positive of_n of_d =
    let a = n / g in
    let b = d / g in
    let n_is : a * g ≡ n = div-mul_cancel g of_n in
    let d_is : b * g ≡ d = div-mul_cancel g of_d in
    let b_positive : 0 < b = quotient_positive d g positive of_d in
    let g_positive : 0 < g =
    elim (cases_eq g 0) [
      | inl none ↦ absurd (omega (arith, sym d_is ∙ ap (λ x. b * x) none))
      | inr some ↦ omega arith
    ] in
    let rest_small : a % b * g < b * g = mul-lt-mul_of_pos_right (mod_below a b b_positive) g_positive in
    let split : n ≡ a / b * d + a % b * g = omega
    (arith, n_is, ap (λ x. x * g) (div-add-mod' a b), ap (λ x. a / b * x) d_is) in
    sym (ap (λ x. x / d) split ∙ div-mul-add (a / b) d (a % b * g) (omega (arith, rest_small, d_is)))

-- a fraction of so many digits around a point is written in no more
module _ (front kept : List ℕ) (room : ℕ) where
  abbrev power : ℕ
  power = 10 ^ length kept

  abbrev number : ℕ
  number = digits_value 10 front * 10 ^ length kept + digits_value 10 kept

  magnitude_shortest : 0 < length front → AllDigits 10 front → AllDigits 10 kept → length kept ≤ 24
      → (0 < length kept → length kept + 1 ≤ room) → number / gcd number power < 2 ^ 62
      → length (magnitude_text (number / gcd number power) (power / gcd number power)
      (places_of (power / gcd number power))) ≤ length front + room
  magnitude_shortest some front_digits kept_all short fits small =
      -- numerator and denominator in lowest terms
      let g = gcd number power in
      let n = number / g in
      let d = power / g in
      let is = IsGcd-gcd number power in
      let power_positive : 0 < power = ten_positive (length kept) in
      -- the denominator goes into the decimal's power of ten, so that the least power is no
      -- greater
      let d_divides : d ∣ power = subst (λ (x : ℕ). d ∣ x) (div-mul_cancel g is.1) (dvd-mul_right d g) in
      let passes : fits_places d (length kept) ≡ true = eq-eqb (power % d) 0 (mod-eq-zero_of_dvd d d_divides) in
      let least = first_of-least (fits_places d) 0 25 (length kept) (omega arith) (omega arith) passes in
      let places_is : places_of d ≡ Some least.0 = places_of-is d ∙ least.1 in
      -- the whole part is the number of the digits before the point,
      let whole : n / d ≡ digits_value 10 front = whole_part number power g power_positive is.0 is.1
      ∙ div-mul-add (digits_value 10 front) power (digits_value 10 kept) (digits_value-lt 10 kept kept_all) in
      let front_small : digits_value 10 front < 2 ^ 64 = omega (arith, whole, div-le_self n d) in
      -- and is written with no more digits
      let front_length : length (decimal (n / d)) ≤ length front = subst (λ (x : ℕ). length (decimal x) ≤ length front)
      (sym whole) (length-decimal-le (length front) (digits_value 10 front) some
      (digits_value-lt 10 front front_digits) front_small) in
      -- nor are more written after the point
      let after = n % d * (10 ^ least.0 / d) in
      let after_length : length (after_point least.0 after) ≤ room = length-after_point least.0 after room
      (λ positive. omega (arith, least.2, fits (omega (arith, least.2)))) in
      let text_length : length (magnitude_text n d (Some least.0)) ≤ length front + room =
      omega (arith, length-append (decimal (n / d)) (after_point least.0 after)) in
      subst (λ (p : Option ℕ). length (magnitude_text n d p) ≤ length front + room) (sym places_is) text_length

-- ---- what a decimal reads as
-- the digits of a decimal, and their room after the first digits
record IsPoint (front rest back : List ℕ) : Type 0 where
  is : numeral_parts front rest ≡ Some (point front back)
  some : 0 < length front
  digits : AllDigits 10 back
  room : 0 < length back → length back + 1 ≤ length rest

-- Front and rest of a text write no number, a decimal, or two numbers round a slash (47).
parts_of : (front rest : List ℕ) → (numeral_parts front rest ≡ None)
    ⊎ (((back : List ℕ) × IsPoint front rest back) ⊎ ((back : List ℕ) × (rest ≡ 47 ∷ back)))
parts_of [] rest = inl refl
-- digits alone
parts_of (d ∷ ds) [] = inr (inl (
  [],
  record {
    is = refl;
    some = omega arith;
    digits = tt;
    room =
        λ positive. absurd (omega arith);
  },
))
-- a mark after them: only digits may follow, and then it is a point (46) or a slash
parts_of (d ∷ ds) (mark ∷ back) =
    let by_test : (b : Bool) → are_digits back ≡ b → numeral_parts (d ∷ ds) (mark ∷ back)
    ≡ cond b (marked mark (d ∷ ds) back) None = λ b test. ap (λ t. cond t (marked mark (d ∷ ds) back) None) test in
    elim (cases_Bool (are_digits back)) [
      | inr fails ↦ inl (by_test false fails)
      | inl passes ↦
          elim (cases_eq mark 46) [
            | inl is_point ↦ inr (inl (
              back,
              record {
                is = by_test true passes
                    ∙ ap (λ b. cond b (Some (point (d ∷ ds) back)) (cond (mark == 47) (Some (slash (d ∷ ds) back)) None))
                    (eq-eqb mark 46 is_point);
                some = omega arith;
                digits = digits_of_test back passes;
                room =
                    λ positive. omega arith;
              },
            ))
            | inr no_point ↦
                elim (cases_eq mark 47) [
                  | inl is_slash ↦ inr (inr (back, ap (λ m. m ∷ back) is_slash))
                  | inr no_slash ↦ inl (by_test true passes
                      ∙ ap (λ b. cond b (Some (point (d ∷ ds) back))
                      (cond (mark == 47) (Some (slash (d ∷ ds) back)) None)) (ne_eqb mark 46 no_point)
                      ∙ ap (λ b. cond b (Some (slash (d ∷ ds) back)) None) (ne_eqb mark 47 no_slash))
                ]
          ]
    ]

-- what fits is the fraction itself
fits_itself : (p q : Fraction) → fitted p ≡ Ok q → (q ≡ p) × (unsigned_abs p.numerator < 2 ^ 62)
fits_itself p q is =
    elim (cases_lt (unsigned_abs p.numerator) (2 ^ 62)) [
      | inl n_fits ↦
          elim (cases_lt p.denominator (2 ^ 62)) [
            | inl d_fits ↦ (let same : Ok q ≡ Ok p = sym is ∙ fitted-fits p n_fits d_fits in cc, n_fits)
            | inr large ↦ absurd (let wrong : Ok q ≡ Err TooLarge = sym is ∙ fitted-denominator p large in cc)
          ]
      | inr large ↦ absurd (let wrong : Ok q ≡ Err TooLarge = sym is ∙ fitted-numerator p large in cc)
    ]

-- what is written of a quantity without its sign
size : Fraction → ℕ
size q = length (magnitude_text (unsigned_abs q.numerator) q.denominator (places_of q.denominator))

-- digits around a point
point_shortest : (front back : List ℕ) (room : ℕ) → 0 < length front → AllDigits 10 front → AllDigits 10 back
    → (0 < length back → length back + 1 ≤ room) → (q : Fraction) → point_value front back ≡ Ok q
    → (size q ≤ length front + room) × (minus q.numerator ≡ [])
unfolding size
point_shortest front back room some front_digits back_digits fits q is =
    let kept = without_last_zeros back in
    let keeps = kept_digits back back_digits in
    elim (cases_lt 24 (length kept)) [
      | inl long ↦ absurd (let wrong : Ok q ≡ Err TooLarge = sym is ∙ point-long front back kept refl long in cc)
      | inr short ↦
          let n = digits_value 10 front * 10 ^ length kept + digits_value 10 kept in
          let p = lowest_terms (pos n) (10 ^ length kept) in
          let itself = fits_itself p q (sym (point-is front back kept refl (omega arith)) ∙ is) in
          let P : Fraction → Type 0 = λ (f : Fraction).
          (length (magnitude_text (unsigned_abs f.numerator) f.denominator (places_of f.denominator)) ≤ length front
          + room) × (minus f.numerator ≡ []) in
          subst P (sym itself.0) (
            magnitude_shortest front kept room some front_digits keeps.0 (omega arith)
                (λ positive. omega (arith, keeps.1, fits (omega (arith, keeps.1)))) itself.1,
            refl,
          )
    ]

slash_front : (back : List ℕ) → codes "/" ++ back ≡ 47 ∷ back
slash_front back = refl

-- a text without a sign
unsigned_shortest : (text : List ℕ) → IsDecimal text → (q : Fraction) → numeral_value (numeral_of text) ≡ Ok q
    → (size q ≤ length text) × (minus q.numerator ≡ [])
unfolding numeral_of
unsigned_shortest text decimal_text q is =
    let len = prefix_len is_ascii_digit text in
    let front = take len text in
    let rest = drop len text in
    let whole : front ++ rest ≡ text = take-append-drop len text in
    let lengths : length front + length rest ≡ length text = sym (length-append front rest) ∙ ap length whole in
    elim (parts_of front rest) [
      | inl none ↦ absurd (let wrong : Ok q ≡ Err BadDigit = sym is ∙ ap numeral_value none in cc)
      | inr others ↦
          elim others [
            | inl found ↦
                let parts = found.1 in
                let shortest = point_shortest front found.0 (length rest) parts.some
                (AllDigits-prefix text) parts.digits parts.room q (sym (ap numeral_value parts.is) ∙ is) in
                (omega (arith, shortest.0, lengths), shortest.1)
            | inr slashed ↦ absurd (decimal_text front slashed.0
                (sym whole ∙ ap (λ r. front ++ r) (slashed.1 ∙ sym (slash_front slashed.0))))
          ]
    ]

-- what is negative was read without its sign
unsigned_part : (r : Result Fraction QuantityFault) (q : Fraction) → negated r ≡ Ok q
    → (p : Fraction) × (r ≡ Ok p) × (negative p ≡ q)
unsigned_part (Ok p) q is = (p, refl, let same : Ok (negative p) ≡ Ok q = is in cc)
unsigned_part (Err fault) q is = absurd (let wrong : Err fault ≡ Ok q = is in cc)

length-minus : (z : ℤ) → length (minus z) ≤ 1
length-minus (pos n) = omega arith
length-minus (negsuc n) = omega arith

length-spelling : (q : Fraction) → length (spelling q) ≡ length (minus q.numerator) + size q
unfolding spelling size
length-spelling q = length-append (minus q.numerator)
    (magnitude_text (unsigned_abs q.numerator) q.denominator (places_of q.denominator))

size-negative : (p : Fraction) → size (negative p) ≡ size p
unfolding size
size-negative p = ap (λ n. length (magnitude_text n p.denominator (places_of p.denominator)))
    (unsigned_abs-neg p.numerator)

pub is_shortest : (q : Fraction) (text : List ℕ) → IsDecimal text → reading text ≡ Ok q
    → length (spelling q) ≤ length text
is_shortest q [] decimal_text is = absurd (let wrong : Err Empty ≡ Ok q = sym (reading-none [] refl) ∙ is in cc)
is_shortest q (c ∷ cs) decimal_text is =
    elim (cases_eq c 45) [
      | inl sign ↦
          let part = unsigned_part (numeral_value (numeral_of cs)) q
          (sym (reading-minus (c ∷ cs) c cs refl sign) ∙ is) in
          let p = part.0 in
          let shortest = unsigned_shortest cs (λ front back same. decimal_text (c ∷ front) back (ap (λ t. c ∷ t) same))
          p part.1 in
          let written : length (spelling (negative p)) ≤ length (c ∷ cs) =
          omega (
            arith,
            length-spelling (negative p),
            length-minus (neg_ℤ p.numerator),
            size-negative p,
            shortest.0,
          ) in
          subst (λ (f : Fraction). length (spelling f) ≤ length (c ∷ cs)) part.2 written
      | inr other ↦
          let shortest = unsigned_shortest (c ∷ cs) decimal_text q (sym (reading-plus (c ∷ cs) c cs refl other) ∙ is) in
          omega (arith, length-spelling q, ap length shortest.1, shortest.0)
    ]
