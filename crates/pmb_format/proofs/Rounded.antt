-- A rounded quotient names the nearest code: for `nearest` of an evenly spaced format. The
-- quantity is n / d spacings after the first value; rounding n / d down or up picks one of its two
-- neighbours, by twice the rest against d, and a tie picks the even one (`IsRounded`).
use Rattle.std.proofs.Common.{◌≡◌, ℕ, suc, ◌+◌, ◌*◌, ◌/◌, ◌%◌, ◌<◌, ◌≤◌, inl, inr, ℤ, pos, ◌+ℤ◌, ◌-ℤ◌, ◌*ℤ◌}
use Rattle.std.proofs.Common.{unsigned_abs, sym, ap, ◌∙◌, subst, arith}
use Rattle.std.proofs.lemmas.Int.{ints}
use Rattle.std.proofs.lemmas.Bool.{cases_lt}
use Rattle.std.proofs.lemmas.Nat.{div-add-mod', div_below, le-div, mod_below, mul-le}
use Rattle.std.proofs.Math.Nat.{mul_assoc, mul_comm, suc-mul, mul-lt-mul_of_pos_right}
use Rattle.pmb_quantity.specs.Fraction.{Fraction}
use Rattle.pmb_format.specs.Coding.{Coding, IsNearest, scaled, scaled_code}
use Rattle.pmb_format.specs.Written.{IsWritten}
use Rattle.pmb_format.specs.Rounding.{Rounds, down, up}
use Rattle.pmb_format.proofs.Products.{product-sum}
use Rattle.pmb_format.proofs.Neighbours.{IsGap, nearest_low, nearest_high}

-- the value at an index of evenly spaced ones
abbrev pub at : ℤ → ℕ → ℕ → ℤ
at first spacing i = first +ℤ pos (i * spacing)

-- .. times a denominator
pub product_at : (d : ℕ) (first : ℤ) (spacing i : ℕ)
    → pos d *ℤ at first spacing i ≡ pos d *ℤ first +ℤ pos (i * (d * spacing))
product_at d first spacing i =
    let turned : d * (i * spacing) ≡ i * (d * spacing) = sym (mul_assoc d i spacing)
    ∙ ap (λ k. k * spacing) (mul_comm d i) ∙ mul_assoc i d spacing in
    product-sum d first (pos (i * spacing)) ∙ ap (λ k. pos d *ℤ first +ℤ pos k) turned

-- A quantity is n / d of the way from one value to the next, and so many ways from the first; c is
-- the code at the index to which that is rounded.
pub record IsRounded (f : Coding) (q : Fraction) (first : ℤ) (spacing n d i c : ℕ) : Type 0 where
  pub positive : 0 < q.denominator
  pub spaced : 0 < spacing
  -- how far the quantity is from the first value
  pub from_first : scaled f q ≡ pos q.denominator *ℤ first +ℤ pos n
  -- d of which is one spacing
  pub divisor : d ≡ q.denominator * spacing
  -- no code lies between the values next to it
  pub gap : IsGap f (at first spacing (n / d)) (at first spacing (n / d + 1))
  -- i is n / d, rounded to the nearest, ties to even
  pub rounds : Rounds n d i
  -- the code at i, with its value and its parity
  pub written : IsWritten f c
  pub value : f.numerator c ≡ at first spacing i
  pub parity : c % 2 ≡ i % 2

-- a quotient in bounds is rounded within them
quotient_at_most : (n d m : ℕ) → 0 < d → n ≤ m * d → n / d ≤ m
quotient_at_most n d m positive order = omega
    (arith, div_below n d (suc m) positive (omega (arith, order, suc-mul m d, positive)))

quotient_below : (n d m : ℕ) → 0 < d → n ≤ m * d → d ≤ n % d * 2 → n / d + 1 ≤ m
quotient_below n d m positive order large =
    elim (cases_lt (n / d) m) [
      | inl less ↦ omega (arith, less)
      | inr more ↦ absurd (omega (
        arith,
        order,
        div-add-mod' n d,
        mul-le m d (n / d) d more (omega arith),
        positive,
        large,
      ))
    ]

pub rounds_at_most : (n d i m : ℕ) → 0 < d → Rounds n d i → n ≤ m * d → i ≤ m
rounds_at_most n d i m positive (down same small even) order =
    omega (arith, same, quotient_at_most n d m positive order)
rounds_at_most n d i m positive (up same large even) order =
    omega (arith, same, quotient_below n d m positive order large)

pub rounds_at_least : (n d i m : ℕ) → 0 < d → Rounds n d i → m * d ≤ n → m ≤ i
rounds_at_least n d i m positive (down same small even) order = omega (arith, same, le-div m n d positive order)
rounds_at_least n d i m positive (up same large even) order = omega (arith, same, le-div m n d positive order)

-- how far evenly spaced values are
near_low : (a x y : ℤ) (r d : ℕ) → a ≡ x +ℤ pos r → y ≡ x +ℤ pos d → r ≤ d → r * 2 ≤ d
    → unsigned_abs (a -ℤ x) ≤ unsigned_abs (a -ℤ y)
near_low a x y r d a_is y_is fits small = grind (arith, ints)

tie_low : (a x y : ℤ) (r d : ℕ) → a ≡ x +ℤ pos r → y ≡ x +ℤ pos d → r ≤ d
    → unsigned_abs (a -ℤ x) ≡ unsigned_abs (a -ℤ y) → r * 2 ≡ d
tie_low a x y r d a_is y_is fits tie = grind (arith, ints)

near_high : (a x y : ℤ) (r d : ℕ) → a ≡ x +ℤ pos r → y ≡ x +ℤ pos d → r ≤ d → d ≤ r * 2
    → unsigned_abs (a -ℤ y) ≤ unsigned_abs (a -ℤ x)
near_high a x y r d a_is y_is fits large = grind (arith, ints)

module _ (f : Coding) (q : Fraction) (first : ℤ) (spacing n d i c : ℕ) (is : IsRounded f q first spacing n d i c) where
  divisor_positive : 0 < d
  divisor_positive = omega (
    arith,
    is.divisor,
    mul-lt-mul_of_pos_right {m = 0} {n = q.denominator} is.positive is.spaced,
  )

  rest_below : n % d < d
  rest_below = mod_below n d divisor_positive

  -- both neighbours, times the denominator
  low_is : pos q.denominator *ℤ at first spacing (n / d) ≡ pos q.denominator *ℤ first +ℤ pos (n / d * d)
  low_is = product_at q.denominator first spacing (n / d) ∙ ap (λ k. pos q.denominator *ℤ first +ℤ pos (n / d * k))
      (sym is.divisor)

  high_is : pos q.denominator *ℤ at first spacing (n / d + 1) ≡ pos q.denominator *ℤ first +ℤ pos ((n / d + 1) * d)
  high_is = product_at q.denominator first spacing (n / d + 1)
      ∙ ap (λ k. pos q.denominator *ℤ first +ℤ pos ((n / d + 1) * k)) (sym is.divisor)

  from_low : scaled f q ≡ pos q.denominator *ℤ at first spacing (n / d) +ℤ pos (n % d)
  from_low = omega (arith, ints, is.from_first, low_is, div-add-mod' n d)

  to_high : pos q.denominator *ℤ at first spacing (n / d + 1) ≡ pos q.denominator *ℤ at first spacing (n / d) +ℤ pos d
  to_high = omega (arith, ints, low_is, high_is, suc-mul (n / d) d)

  rounded_down : i ≡ n / d → n % d * 2 ≤ d → (n % d * 2 ≡ d → i % 2 ≡ 0) → IsNearest f q c
  rounded_down same small even =
      let value : f.numerator c ≡ at first spacing (n / d) = is.value ∙ ap (at first spacing) same in
      let own : scaled_code f q c ≡ pos q.denominator *ℤ at first spacing (n / d) =
      ap (λ z. pos q.denominator *ℤ z) value in
      nearest_low f q c (at first spacing (n / d + 1)) is.positive (record {
        written = is.written;
        gap = subst (λ z. IsGap f z (at first spacing (n / d + 1))) (sym value) is.gap;
        from_low = omega (arith, ints, own, from_low);
        to_high = omega (arith, ints, from_low, to_high, rest_below);
        nearer = near_low (scaled f q) (scaled_code f q c) (pos q.denominator *ℤ at first spacing (n / d + 1)) (n % d) d
            (from_low ∙ ap (λ z. z +ℤ pos (n % d)) (sym own)) (to_high ∙ ap (λ z. z +ℤ pos d) (sym own))
            (omega (arith, rest_below)) small;
        even = λ tie. omega (
          arith,
          is.parity,
          even
              (tie_low (scaled f q) (scaled_code f q c) (pos q.denominator *ℤ at first spacing (n / d + 1)) (n % d) d
              (from_low ∙ ap (λ z. z +ℤ pos (n % d)) (sym own)) (to_high ∙ ap (λ z. z +ℤ pos d) (sym own))
              (omega (arith, rest_below)) tie),
        );
      })

  rounded_up : i ≡ n / d + 1 → d ≤ n % d * 2 → (n % d * 2 ≡ d → i % 2 ≡ 0) → IsNearest f q c
  rounded_up same large even =
      let value : f.numerator c ≡ at first spacing (n / d + 1) = is.value ∙ ap (at first spacing) same in
      let own : scaled_code f q c ≡ pos q.denominator *ℤ at first spacing (n / d + 1) =
      ap (λ z. pos q.denominator *ℤ z) value in
      nearest_high f q c (at first spacing (n / d)) is.positive (record {
        written = is.written;
        gap = subst (λ z. IsGap f (at first spacing (n / d)) z) (sym value) is.gap;
        from_low = omega (arith, ints, from_low);
        to_high = omega (arith, ints, own, from_low, to_high, rest_below);
        nearer = near_high (scaled f q) (pos q.denominator *ℤ at first spacing (n / d)) (scaled_code f q c)
            (n % d) d from_low (own ∙ to_high) (omega (arith, rest_below)) large;
        even = λ tie. omega (
          arith,
          is.parity,
          even
              (tie_low (scaled f q) (pos q.denominator *ℤ at first spacing (n / d)) (scaled_code f q c) (n % d) d from_low
              (own ∙ to_high) (omega (arith, rest_below)) (sym tie)),
        );
      })

  pub nearest_by_rounding : IsNearest f q c
  nearest_by_rounding =
      elim is.rounds [
        | down same small even ↦ rounded_down same small even
        | up same large even ↦ rounded_up same large
            even
      ]
