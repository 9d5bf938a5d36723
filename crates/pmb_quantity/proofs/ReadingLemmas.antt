-- Numbers in texts, and the fractions that they make: for `Quantity::parse`,
-- `Quantity::from_decimal` and the functions of `parse.rt`. Digits are read one by one into a
-- number; zeros at the end of digits after a point go; whole part and rest are put together over a
-- power of ten, and the cases of `reading` are told apart by lengths and by the first byte.
use Rattle.std.proofs.Common.{◌≡◌, ◌≢◌, ℕ, zero, suc, ◌+◌, ◌-◌, ◌*◌, ◌/◌, ◌^◌, ◌<◌, ◌≤◌, cond, eq-eqb, pos, List, []}
use Rattle.std.proofs.Common.{◌∷◌, ◌++◌, length, length-append, take, drop, get_or, ◌⊎◌, Some, None, Result, Ok, Err}
use Rattle.std.proofs.Common.{refl, sym, ap, ◌∙◌, inl, inr, arith, take-append-drop}
use Rattle.std.specs.Char.{digit_value}
use Rattle.std.specs.Str.Parse.{AllDigits, digits_value, digits_value_after}
use Rattle.std.specs.Int.{◌∣◌}
use Rattle.std.proofs.lemmas.Bool.{cases_lt, ne_eqb, cond_below, cond_above}
use Rattle.std.proofs.lemmas.Bool.Decides.{nat_tests}
use Rattle.std.proofs.lemmas.Int.Digits.{digits_value-lt}
use Rattle.std.proofs.lemmas.Str.Parse.{digit_at}
use Rattle.std.proofs.lemmas.Nat.{le-div, mul-le}
use Rattle.std.proofs.lemmas.Nat.Gcd.{le_of_dvd}
use Rattle.std.proofs.Math.Seq.{take-suc}
use Rattle.std.proofs.Math.Nat.{pow-suc, div-one, div-le_self, div-mul_cancel, mul-div_cancel, mul_assoc}
use Rattle.std.proofs.Math.Nat.{mul-lt-mul_of_pos_right, mul-add-mod_self_right}
use Rattle.pmb_quantity.specs.declared.quantity.QuantityFault.{QuantityFault}
use Rattle.pmb_quantity.specs.declared.quantity.QuantityFault.TheVariants.{Empty, ZeroDenominator, TooLarge}
use Rattle.pmb_quantity.specs.Fraction.{Fraction, gcd, lowest_terms}
use Rattle.pmb_quantity.specs.Quantity.{fitted, negated}
use Rattle.pmb_quantity.specs.Reading.{without_last_zeros, with_last, point_value, slash_value, numeral_of}
use Rattle.pmb_quantity.specs.Reading.{numeral_value, reading}
use Rattle.pmb_quantity.specs.machine.Below.{below}
use Rattle.pmb_quantity.proofs.FractionLemmas.{gcd_step, gcd_positive, gcd-scale, gcd-quotients, IsGcd-gcd}
use Rattle.pmb_quantity.proofs.FractionLemmas.{quotient_positive}
use Rattle.pmb_quantity.proofs.Fitted.{lowest-fits, lowest-numerator, lowest-denominator}
use Rattle.pmb_quantity.proofs.TextLemmas.{ten_at_most}

-- ---- digits and their number
-- 48 to 57 are the digits
pub is_digit_at : (ds : List ℕ) (i : ℕ) → AllDigits 10 ds → i < length ds → (48 ≤ get_or ds i 0) × (get_or ds i 0 ≤ 57)
is_digit_at ds i digits inside = let at = digit_at ds i digits inside in (omega (arith, at), omega (arith, at))

value_of_digit : (c : ℕ) → 48 ≤ c → c ≤ 57 → digit_value c ≡ c - 48
value_of_digit c low high = grind (arith, nat_tests)

-- more digits make the number no smaller
after_at_least : (n : ℕ) (ds : List ℕ) → n ≤ digits_value_after 10 n ds
after_at_least n [] = omega arith
after_at_least n (c ∷ cs) = omega (arith, after_at_least (n * 10 + digit_value c) cs)

after-append : (n : ℕ) (xs ys : List ℕ) → digits_value_after 10 n (xs ++ ys)
    ≡ digits_value_after 10 (digits_value_after 10 n xs) ys
after-append n [] ys = refl
after-append n (x ∷ xs) ys = after-append (n * 10 + digit_value x) xs ys

-- one digit more
pub after_more : (n : ℕ) (ds : List ℕ) (i : ℕ) → AllDigits 10 ds → i < length ds
    → digits_value_after 10 n (take (i + 1) ds) ≡ digits_value_after 10 n (take i ds) * 10 + (get_or ds i 0 - 48)
after_more n ds i digits inside =
    let at = is_digit_at ds i digits inside in
    let next : i + 1 ≡ suc i = omega arith in
    ap (λ k. digits_value_after 10 n (take k ds)) next ∙ ap (digits_value_after 10 n) (take-suc ds i 0 inside)
    ∙ after-append n (take i ds) (get_or ds i 0 ∷ []) ∙ ap (λ d. digits_value_after 10 n (take i ds) * 10 + d)
    (value_of_digit (get_or ds i 0) at.0 at.1)

pub after_front : (n : ℕ) (ds : List ℕ) (i : ℕ) → digits_value_after 10 n (take i ds) ≤ digits_value_after 10 n ds
after_front n ds i =
    let whole : digits_value_after 10 n (take i ds ++ drop i ds) ≡ digits_value_after 10 n ds =
    ap (digits_value_after 10 n) (take-append-drop i ds) in
    omega (
      arith,
      whole,
      after-append n (take i ds) (drop i ds),
      after_at_least (digits_value_after 10 n (take i ds))
          (drop i ds),
    )

-- digits after a number
after-is : (n : ℕ) (ds : List ℕ) → digits_value_after 10 n ds ≡ n * 10 ^ length ds + digits_value 10 ds
after-is n [] = omega arith
after-is n (c ∷ cs) =
    let power : 10 ^ suc (length cs) ≡ 10 ^ length cs * 10 = pow-suc 10 (length cs) in
    let here = after-is (n * 10 + digit_value c) cs in
    let alone = after-is (0 * 10 + digit_value c) cs in
    let product : n * 10 ^ suc (length cs) ≡ n * (10 ^ length cs * 10) = ap (λ p. n * p) power in
    omega (arith, here, alone, product)

pub digits_value-append : (xs ys : List ℕ)
    → digits_value 10 (xs ++ ys) ≡ digits_value 10 xs * 10 ^ length ys + digits_value 10 ys
digits_value-append xs ys = after-append 0 xs ys ∙ after-is (digits_value 10 xs) ys

-- few digits write a small number
pub AllDigits-append : (xs ys : List ℕ) → AllDigits 10 xs → AllDigits 10 ys → AllDigits 10 (xs ++ ys)
AllDigits-append [] ys front back = back
AllDigits-append (x ∷ xs) ys front back = (front.0, AllDigits-append xs ys front.1 back)

pub few_digits : (most : ℕ) (ds : List ℕ) → AllDigits 10 ds → length ds ≤ most → digits_value 10 ds < 10 ^ most
few_digits most ds digits few =
    omega (arith, digits_value-lt 10 ds digits, ten_at_most (length ds) most few)

-- two runs of digits, one after the other
pub after_both : (front back : List ℕ) → digits_value_after 10 (digits_value 10 front) back
    ≡ digits_value 10 (front ++ back)
after_both front back = sym (after-append 0 front back)

pub few_in_both : (front back : List ℕ) → AllDigits 10 front → AllDigits 10 back → length front + length back ≤ 18
    → digits_value 10 (front ++ back) < 10 ^ 18
few_in_both front back front_digits back_digits few =
    few_digits 18 (front ++ back) (AllDigits-append front back front_digits back_digits)
    (omega (arith, length-append front back))

-- a number below a limit, or none
pub below-none : (limit n : ℕ) → limit ≤ n → below limit n ≡ None
below-none limit n large = grind (arith, nat_tests)

pub below-some : (limit n : ℕ) → n < limit → below limit n ≡ Some n
below-some limit n small = grind (arith, nat_tests)

pub none_some : {x : ℕ} → None ≡ Some x → ⊥
none_some same = cc

pub none_below : (limit n : ℕ) → None ≡ below limit n → limit ≤ n
none_below limit n is =
    elim (cases_lt n limit) [ inl small ↦ absurd (none_some (is ∙ below-some limit n small)) | inr large ↦ large ]

pub some_below : (limit n x : ℕ) → Some x ≡ below limit n → (x ≡ n) × (n < limit)
some_below limit n x is =
    elim (cases_lt n limit) [
      | inl small ↦ (let same : Some x ≡ Some n = is ∙ below-some limit n small in cc, small)
      | inr large ↦ absurd (none_some (sym (is ∙ below-none limit n large)))
    ]

-- ---- zeros at the end
kept_some : (d e : ℕ) (es : List ℕ) → with_last d (e ∷ es) ≡ d ∷ e ∷ es
kept_some d e es = refl

-- 48 is the digit 0
pub zero_goes : (ds : List ℕ) (n : ℕ) → n < length ds → get_or ds n 0 ≡ 48 → without_last_zeros (take (n + 1) ds)
    ≡ without_last_zeros (take n ds)
zero_goes [] n inside zero_at = absurd (omega arith)
zero_goes (d ∷ ds) zero inside zero_at = ap (λ b. cond b [] (d ∷ [])) (eq-eqb d 48 zero_at)
zero_goes (d ∷ ds) (suc n) inside zero_at =
    let next : suc n + 1 ≡ suc (n + 1) = omega arith in
    rw next (ap (with_last d) (zero_goes ds n (omega arith) zero_at))

last_stays : (d e : ℕ) (es rest : List ℕ) → rest ≡ e ∷ es → with_last d rest ≡ d ∷ rest
last_stays d e es rest is = rw is refl

pub other_stays : (ds : List ℕ) (n : ℕ) → n < length ds → get_or ds n 0 ≢ 48 → without_last_zeros (take (n + 1) ds)
    ≡ take (n + 1) ds
other_stays [] n inside other = absurd (omega arith)
other_stays (d ∷ ds) zero inside other = ap (λ b. cond b [] (d ∷ [])) (ne_eqb d 48 other)
other_stays (d ∷ []) (suc n) inside other = absurd (omega arith)
other_stays (d ∷ e ∷ ds) (suc n) inside other =
    let next : suc n + 1 ≡ suc (n + 1) = omega arith in
    let more : n + 1 ≡ suc n = omega arith in
    rw next (ap (with_last d) (other_stays (e ∷ ds) n (omega arith) other) ∙ rw more refl)

pub AllDigits-take : (n : ℕ) (ds : List ℕ) → AllDigits 10 ds → AllDigits 10 (take n ds)
AllDigits-take zero ds digits = tt
AllDigits-take (suc n) [] digits = tt
AllDigits-take (suc n) (d ∷ ds) digits = (digits.0, AllDigits-take n ds digits.1)

-- ---- fractions
div-scale : (q g k : ℕ) → 0 < g → 0 < k → (q * g * k) / (g * k) ≡ q
div-scale q g k g_positive k_positive =
    let positive : 0 < g * k = omega (arith, mul-lt-mul_of_pos_right {m = 0} {n = g} g_positive k_positive) in
    ap (λ n. n / (g * k)) (mul_assoc q g k) ∙ mul-div_cancel q positive

div-of_multiple : (n g k : ℕ) → 0 < g → 0 < k → g ∣ n → (n * k) / (g * k) ≡ n / g
div-of_multiple n g k g_positive k_positive divides =
    ap (λ m. (m * k) / (g * k)) (sym (div-mul_cancel g divides)) ∙ div-scale (n / g) g k g_positive k_positive

-- a common factor changes no fraction
pub lowest_terms-scale : (n d k : ℕ) → 0 < d → 0 < k → lowest_terms (pos (n * k)) (d * k) ≡ lowest_terms (pos n) d
lowest_terms-scale n d k d_positive k_positive =
    let g = gcd n d in
    let g_positive : 0 < g = gcd_positive n d d_positive in
    let made : ℕ → ℕ → Fraction = λ x y. record { numerator = pos x; denominator = y } in
    ap (λ h. made ((n * k) / h) ((d * k) / h)) (gcd-scale n d k k_positive) ∙ ap (λ x. made x ((d * k) / (g * k)))
    (div-of_multiple n g k g_positive k_positive (IsGcd-gcd n d).0)
    ∙ ap (made (n / g)) (div-of_multiple d g k g_positive k_positive (IsGcd-gcd n d).1)

gcd-add : (w a b : ℕ) → 0 < b → gcd (w * b + a) b ≡ gcd a b
gcd-add w a b positive = gcd_step (w * b + a) b positive ∙ ap (gcd b) (mul-add-mod_self_right w b a)
    ∙ sym (gcd_step a b positive)

-- a whole number and a fraction, by the fraction's lowest terms
module _ (w rest scale : ℕ) (positive : 0 < scale) where
  pub mixed-reduced : lowest_terms (pos (w * scale + rest)) scale
      ≡ lowest_terms (pos (w * (scale / gcd rest scale) + rest / gcd rest scale)) (scale / gcd rest scale)
  mixed-reduced =
      -- both parts of the fraction without what they have in common,
      let g = gcd rest scale in
      let g_positive : 0 < g = gcd_positive rest scale positive in
      let scale_is : scale / g * g ≡ scale = div-mul_cancel g (IsGcd-gcd rest scale).1 in
      let rest_is : rest / g * g ≡ rest = div-mul_cancel g (IsGcd-gcd rest scale).0 in
      -- and the sum of whole and rest over the smaller denominator
      let sum_is : (w * (scale / g) + rest / g) * g ≡ w * scale + rest =
      omega (arith, rest_is, ap (λ x. w * x) scale_is) in
      sym (ap (λ n. lowest_terms (pos n) (scale / g * g)) sum_is ∙ ap (lowest_terms (pos (w * scale + rest))) scale_is)
      ∙ lowest_terms-scale (w * (scale / g) + rest / g) (scale / g) g
      (quotient_positive scale g positive (IsGcd-gcd rest scale).1) g_positive

  pub mixed-large_denominator : 2 ^ 62 ≤ scale / gcd rest scale → fitted (lowest_terms (pos (w * scale + rest)) scale)
      ≡ Err TooLarge
  mixed-large_denominator large =
      let g = gcd rest scale in
      let reduced : 0 < scale / g = quotient_positive scale g positive (IsGcd-gcd rest scale).1 in
      let alone : gcd (w * (scale / g) + rest / g) (scale / g) ≡ 1 = gcd-add w (rest / g) (scale / g) reduced
      ∙ gcd-quotients rest scale positive in
      let same : scale / g / gcd (w * (scale / g) + rest / g) (scale / g) ≡ scale / g = ap (λ x. scale / g / x) alone
      ∙ div-one (scale / g) in
      ap fitted mixed-reduced ∙ lowest-denominator (w * (scale / g) + rest / g) (scale / g) (omega (arith, same))

  pub mixed-large_whole : 2 ^ 62 ≤ w → fitted (lowest_terms (pos (w * scale + rest)) scale) ≡ Err TooLarge
  mixed-large_whole large =
      let g = gcd (w * scale + rest) scale in
      let g_positive : 0 < g = gcd_positive (w * scale + rest) scale positive in
      let g_small : g ≤ scale = le_of_dvd positive (IsGcd-gcd (w * scale + rest) scale).1 in
      let product : 2 ^ 62 * g ≤ w * scale = mul-le (2 ^ 62) g w scale large g_small in
      lowest-numerator (w * scale + rest) scale (le-div (2 ^ 62) (w * scale + rest) g g_positive (omega arith))

-- ---- the cases of a reading
module _ (front back : List ℕ) where
  pub point-long : (kept : List ℕ) → kept ≡ without_last_zeros back → 24 < length kept
      → point_value front back ≡ Err TooLarge
  unfolding point_value
  point-long kept is long =
      let long_here : 24 < length (without_last_zeros back) = omega (arith, ap length is) in
      sym (cond_below 24 (length (without_last_zeros back)) (Err TooLarge)
      (fitted (lowest_terms (pos (digits_value 10 (front ++ without_last_zeros back)))
      (10 ^ length (without_last_zeros back)))) long_here)

  pub point-is : (kept : List ℕ) → kept ≡ without_last_zeros back → length kept ≤ 24
      → point_value front back ≡ fitted (lowest_terms
      (pos (digits_value 10 front * 10 ^ length kept + digits_value 10 kept)) (10 ^ length kept))
  unfolding point_value
  point-is kept is short =
      let value : List ℕ → Result Fraction QuantityFault =
      λ (k : List ℕ). fitted (lowest_terms (pos (digits_value 10 (front ++ k))) (10 ^ length k)) in
      let short_here : length (without_last_zeros back) ≤ 24 = omega (arith, ap length is) in
      sym (cond_above 24 (length (without_last_zeros back)) (Err TooLarge) (value (without_last_zeros back))
      (value (without_last_zeros back)) short_here refl) ∙ ap value (sym is)
      ∙ ap (λ n. fitted (lowest_terms (pos n) (10 ^ length kept))) (digits_value-append front kept)

  pub point-short : (kept : List ℕ) → kept ≡ without_last_zeros back → length kept ≤ 18
      → digits_value 10 (front ++ kept) < 2 ^ 62
      → point_value front back ≡ Ok (lowest_terms (pos (digits_value 10 (front ++ kept))) (10 ^ length kept))
  point-short kept is few small =
      let n = digits_value 10 (front ++ kept) in
      let d = 10 ^ length kept in
      let ten : d ≤ 10 ^ 18 = ten_at_most (length kept) 18 few in
      point-is kept is (omega arith)
      ∙ ap (λ x. fitted (lowest_terms (pos x) d)) (sym (digits_value-append front kept))
      ∙ lowest-fits n d (omega (arith, div-le_self n (gcd n d))) (omega (arith, ten, div-le_self d (gcd n d)))

  pub slash-zero : digits_value 10 back ≡ 0 → slash_value front back ≡ Err ZeroDenominator
  unfolding slash_value
  slash-zero none = grind (arith, nat_tests)

  pub slash-large : digits_value 10 back ≢ 0 → (2 ^ 63 ≤ digits_value 10 front) ⊎ (2 ^ 63 ≤ digits_value 10 back)
      → slash_value front back ≡ Err TooLarge
  unfolding slash_value
  slash-large some large = grind (arith, nat_tests)

  pub slash-is : digits_value 10 back ≢ 0 → digits_value 10 front < 2 ^ 63 → digits_value 10 back < 2 ^ 63
      → slash_value front back ≡ fitted (lowest_terms (pos (digits_value 10 front)) (digits_value 10 back))
  unfolding slash_value
  slash-is some front_small back_small = grind (arith, nat_tests)

-- ---- the first byte
pub reading-none : (text : List ℕ) → length text ≡ 0 → reading text ≡ Err Empty
unfolding reading
reading-none [] none = refl
reading-none (c ∷ cs) none = absurd (omega arith)

-- 45 is the minus sign
pub reading-minus : (text : List ℕ) (c : ℕ) (cs : List ℕ) → text ≡ c ∷ cs → c ≡ 45
    → reading text ≡ negated (numeral_value (numeral_of cs))
unfolding reading
reading-minus text c cs is minus =
    ap reading is ∙ ap (λ b. cond b (negated (numeral_value (numeral_of cs))) (numeral_value (numeral_of (c ∷ cs))))
    (eq-eqb c 45 minus)

pub reading-plus : (text : List ℕ) (c : ℕ) (cs : List ℕ) → text ≡ c ∷ cs → c ≢ 45
    → reading text ≡ numeral_value (numeral_of text)
unfolding reading
reading-plus text c cs is other =
    ap reading is ∙ ap (λ b. cond b (negated (numeral_value (numeral_of cs))) (numeral_value (numeral_of (c ∷ cs))))
    (ne_eqb c 45 other) ∙ ap (λ t. numeral_value (numeral_of t)) (sym is)
