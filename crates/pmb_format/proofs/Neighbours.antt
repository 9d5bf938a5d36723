-- From the nearer of two neighbours to the nearest of all codes: for `nearest` and `obeys_laws` of
-- an evenly spaced format. No value lies between the two, so any other code is beyond one of them;
-- downwards it is the same with all signs turned round.
use Rattle.std.proofs.Common.{◌≡◌, ◌≢◌, ℕ, ◌%◌, ◌<◌, ◌≤◌, ◌⊎◌, inl, inr, ℤ, pos, neg_ℤ, ◌-ℤ◌, ◌*ℤ◌, ◌<ℤ◌, ◌≤ℤ◌}
use Rattle.std.proofs.Common.{unsigned_abs, sym, ap, ◌∙◌, arith}
use Rattle.std.proofs.lemmas.Int.{ints, by_lt_z}
use Rattle.std.proofs.Math.IntN.{*ℤ_comm, neg_ℤ-neg_ℤ}
use Rattle.pmb_quantity.specs.Fraction.{Fraction}
use Rattle.pmb_quantity.specs.Quantity.{negative}
use Rattle.pmb_quantity.proofs.Fitted.{unsigned_abs-neg}
use Rattle.pmb_format.specs.Coding.{Coding, IsNearest, IsInRange, scaled, scaled_code, distance}
use Rattle.pmb_format.specs.Written.{IsWritten}
use Rattle.pmb_format.specs.Row.{mirrored}
use Rattle.pmb_format.proofs.Nearest.{scale_lt}
use Rattle.pmb_format.proofs.Products.{product-neg, product_le}

-- no code's value lies strictly between these two
abbrev pub IsGap : Coding → ℤ → ℤ → Type 0
IsGap f low high = (k : ℕ) → f.IsCode k → (f.numerator k ≤ℤ low) ⊎ (high ≤ℤ f.numerator k)

-- distances on one side
beyond_low : (a x z : ℤ) → z ≤ℤ x → x ≤ℤ a → unsigned_abs (a -ℤ x) ≤ unsigned_abs (a -ℤ z)
beyond_low a x z low order = grind (arith, ints)

below_low : (a x z : ℤ) → z <ℤ x → x ≤ℤ a → unsigned_abs (a -ℤ x) < unsigned_abs (a -ℤ z)
below_low a x z low order = grind (arith, ints)

beyond_high : (a y z : ℤ) → y ≤ℤ z → a ≤ℤ y → unsigned_abs (a -ℤ y) ≤ unsigned_abs (a -ℤ z)
beyond_high a y z high order = grind (arith, ints)

-- a code whose value is at or below the quantity, and the next greater value, which is no nearer
pub record IsNearLow (f : Coding) (q : Fraction) (c : ℕ) (high : ℤ) : Type 0 where
  -- the code is one that the encoder writes,
  pub written : IsWritten f c
  -- and no value lies between it and the next,
  pub gap : IsGap f (f.numerator c) high
  pub from_low : scaled_code f q c ≤ℤ scaled f q
  pub to_high : scaled f q ≤ℤ (pos q.denominator *ℤ high)
  -- which is no nearer,
  pub nearer : distance f q c ≤ unsigned_abs (scaled f q -ℤ pos q.denominator *ℤ high)
  -- and as near only if the code is even
  pub even : distance f q c ≡ unsigned_abs (scaled f q -ℤ pos q.denominator *ℤ high) → c % 2 ≡ 0

module _ (f : Coding) (q : Fraction) (c : ℕ) (high : ℤ) (positive : 0 < q.denominator)
    (near : IsNearLow f q c high) where
  low_none_nearer : (k : ℕ) → f.IsCode k → distance f q c ≤ distance f q k
  low_none_nearer k code =
      elim (near.gap k code) [
        | inl low ↦ beyond_low (scaled f q) (scaled_code f q c) (scaled_code f q k)
            (product_le q.denominator (f.numerator k) (f.numerator c) positive low) near.from_low
        | inr beyond ↦
            let farther = beyond_high (scaled f q) (pos q.denominator *ℤ high) (scaled_code f q k)
            (product_le q.denominator high (f.numerator k) positive beyond) near.to_high in
            omega (arith, farther, near.nearer)
      ]

  low_even : (k : ℕ) → f.IsCode k → f.numerator k ≢ f.numerator c → distance f q k ≡ distance f q c → c % 2 ≡ 0
  low_even k code other tie =
      elim (near.gap k code) [
        | inl low ↦
            by_lt_z (f.numerator k) (f.numerator c)
            (λ less.
            let farther = below_low (scaled f q) (scaled_code f q c) (scaled_code f q k)
            (scale_lt q.denominator (f.numerator k) (f.numerator c) positive less) near.from_low in
            absurd (omega (arith, farther, tie)))
            (λ at_least. absurd (other (omega (arith, ints, low, at_least))))
        | inr beyond ↦
            let farther = beyond_high (scaled f q) (pos q.denominator *ℤ high) (scaled_code f q k)
            (product_le q.denominator high (f.numerator k) positive beyond) near.to_high in
            near.even (omega (arith, farther, tie, near.nearer))
      ]

  pub nearest_low : IsNearest f q c
  nearest_low = record {
    is_code = near.written.0;
    canonical = near.written.1;
    none_nearer = low_none_nearer;
    even_at_tie = low_even;
  }

-- ---- the same downwards

mirror_scaled : (f : Coding) (q : Fraction) → scaled (mirrored f) (negative q) ≡ neg_ℤ (scaled f q)
mirror_scaled f q =
    *ℤ_comm (neg_ℤ q.numerator) (pos f.denominator) ∙ product-neg f.denominator q.numerator
    ∙ ap neg_ℤ (*ℤ_comm (pos f.denominator) q.numerator)

-- a quantity and the values, each with the other sign, are as far apart
pub mirror_distance : (f : Coding) (q : Fraction) (z : ℤ)
    → unsigned_abs (scaled (mirrored f) (negative q) -ℤ pos q.denominator *ℤ neg_ℤ z)
    ≡ unsigned_abs (scaled f q -ℤ pos q.denominator *ℤ z)
mirror_distance f q z =
    let value = product-neg q.denominator z in
    let quantity = mirror_scaled f q in
    let difference : scaled (mirrored f) (negative q) -ℤ pos q.denominator *ℤ neg_ℤ z
    ≡ neg_ℤ (scaled f q -ℤ pos q.denominator *ℤ z) = omega (arith, ints, value, quantity) in
    ap unsigned_abs difference ∙ unsigned_abs-neg (scaled f q -ℤ pos q.denominator *ℤ z)

pub mirror_nearest : (f : Coding) (q : Fraction) (c : ℕ) → IsNearest (mirrored f) (negative q) c → IsNearest f q c
mirror_nearest f q c nearest = record {
  is_code = nearest.is_code;
  canonical = nearest.canonical;
  none_nearer = λ k code. omega (
    arith,
    nearest.none_nearer k code,
    mirror_distance f q (f.numerator c),
    mirror_distance f q (f.numerator k),
  );
  even_at_tie = λ k code other tie.
      nearest.even_at_tie k code
      (λ same. other (sym (neg_ℤ-neg_ℤ (f.numerator k)) ∙ ap neg_ℤ same ∙ neg_ℤ-neg_ℤ (f.numerator c)))
      (mirror_distance f q (f.numerator k) ∙ tie ∙ sym (mirror_distance f q (f.numerator c)));
}

-- a code whose value is at or above the quantity, and the next smaller value, which is no nearer
pub record IsNearHigh (f : Coding) (q : Fraction) (c : ℕ) (low : ℤ) : Type 0 where
  -- as above, with the next smaller value
  pub written : IsWritten f c
  pub gap : IsGap f low (f.numerator c)
  -- the quantity is between both
  pub from_low : (pos q.denominator *ℤ low) ≤ℤ scaled f q
  pub to_high : scaled f q ≤ℤ scaled_code f q c
  pub nearer : distance f q c ≤ unsigned_abs (scaled f q -ℤ pos q.denominator *ℤ low)
  pub even : distance f q c ≡ unsigned_abs (scaled f q -ℤ pos q.denominator *ℤ low) → c % 2 ≡ 0

mirror_gap : (f : Coding) (low high : ℤ) → IsGap f low high → IsGap (mirrored f) (neg_ℤ high) (neg_ℤ low)
mirror_gap f low high gap k code =
    elim (gap k code) [ inl below ↦ inr (omega (arith, ints, below)) | inr above ↦ inl (omega (arith, ints, above)) ]

mirror_near : (f : Coding) (q : Fraction) (c : ℕ) (low : ℤ) → IsNearHigh f q c low
    → IsNearLow (mirrored f) (negative q) c (neg_ℤ low)
mirror_near f q c low near =
    let quantity = mirror_scaled f q in
    let value = product-neg q.denominator (f.numerator c) in
    let low_value = product-neg q.denominator low in
    let own = mirror_distance f q (f.numerator c) in
    let other = mirror_distance f q low in
    record {
      written = near.written;
      gap = mirror_gap f low (f.numerator c) near.gap;
      from_low = omega (arith, ints, quantity, value, near.to_high);
      to_high = omega (arith, ints, quantity, low_value, near.from_low);
      nearer = omega (arith, own, other, near.nearer);
      even = λ tie. near.even (sym own ∙ tie ∙ other);
    }

pub nearest_high : (f : Coding) (q : Fraction) (c : ℕ) (low : ℤ) → 0 < q.denominator → IsNearHigh f q c low
    → IsNearest f q c
nearest_high f q c low positive near =
    mirror_nearest f q c (nearest_low (mirrored f) (negative q) c (neg_ℤ low) positive (mirror_near f q c low near))

pub mirror_in_range : (f : Coding) (q : Fraction) → IsInRange f q → IsInRange (mirrored f) (negative q)
mirror_in_range f q range =
    let least = range.from_least in
    let greatest = range.to_greatest in
    let quantity = mirror_scaled f q in
    let least_value = product-neg q.denominator (f.numerator least.0) in
    let greatest_value = product-neg q.denominator (f.numerator greatest.0) in
    record {
      from_least = (greatest.0, greatest.1, omega (arith, ints, quantity, greatest_value, greatest.2));
      to_greatest = (least.0, least.1, omega (arith, ints, quantity, least_value, least.2));
    }
