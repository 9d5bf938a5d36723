-- The nearest code of evenly spaced ones: for `nearest` of an evenly spaced format. The distance
-- from the first value, by the spacing, is rounded to an index, which is in the row since the
-- quantity is in range; a falling row is read as the mirror image of a rising one.
use Rattle.std.proofs.Common.{◌≡◌, ℕ, ◌+◌, ◌*◌, ◌/◌, ◌<◌, ◌≤◌, inl, inr, ℤ, pos, ◌+ℤ◌, ◌*ℤ◌, ◌≤ℤ◌, sym, ap, ◌∙◌, arith}
use Rattle.std.proofs.lemmas.Int.{ints}
use Rattle.std.proofs.lemmas.Bool.{cases_lt}
use Rattle.std.proofs.lemmas.Nat.{mul-le}
use Rattle.std.proofs.Math.Nat.{mul-lt-mul_of_pos_right}
use Rattle.pmb_quantity.specs.Fraction.{Fraction}
use Rattle.pmb_quantity.specs.Quantity.{negative}
use Rattle.pmb_format.specs.Coding.{Coding, IsNearest, IsInRange, scaled, distance}
use Rattle.pmb_format.specs.Row.{Row, Rises, IsRow, mirrored}
use Rattle.pmb_format.specs.Rounding.{Rounds}
use Rattle.pmb_format.proofs.Products.{product_le}
use Rattle.pmb_format.proofs.Neighbours.{IsGap, mirror_nearest, mirror_in_range, mirror_distance}
use Rattle.pmb_format.proofs.Rounded.{at, product_at, nearest_by_rounding, rounds_at_most}

-- values rise with their index
pub at_rises : (first : ℤ) (spacing i j : ℕ) → i ≤ j → at first spacing i ≤ℤ at first spacing j
at_rises first spacing i j order = omega (arith, ints, mul-le i spacing j spacing order (omega arith))

module _ (f : Coding) (q : Fraction) (row : Row) (n d i : ℕ) (positive : 0 < q.denominator) (rises : Rises f row)
    (range : IsInRange f q) (n_is : n ≡ distance f q (row.code_at 0)) (d_is : d ≡ q.denominator * row.spacing)
    (rounds : Rounds n d i) where
  value_first : f.numerator (row.code_at 0) ≡ row.first
  value_first = omega (arith, ints, rises.value 0 (omega arith))

  -- the numerator of each code is that of its index
  value_of_index : (k j : ℕ) → j ≤ row.last → row.code_at j ≡ k → f.numerator k ≡ at row.first row.spacing j
  value_of_index k j inside is = ap f.numerator (sym is) ∙ rises.value j inside

  from_first : scaled f q ≡ pos q.denominator *ℤ row.first +ℤ pos n
  from_first =
      let least = range.from_least in
      let index = rises.index least.0 least.1 in
      let value = value_of_index least.0 index.0 index.1 index.2 in
      let order : row.first ≤ℤ f.numerator least.0 = omega (arith, ints, value) in
      let scaled_order = product_le q.denominator row.first (f.numerator least.0) positive order in
      let same : pos q.denominator *ℤ f.numerator (row.code_at 0) ≡ pos q.denominator *ℤ row.first =
      ap (λ z. pos q.denominator *ℤ z) value_first in
      omega (arith, ints, n_is, same, scaled_order, least.2)

  at_most_last : n ≤ row.last * d
  at_most_last =
      let greatest = range.to_greatest in
      let index = rises.index greatest.0 greatest.1 in
      let value = value_of_index greatest.0 index.0 index.1 index.2 in
      let order = at_rises row.first row.spacing index.0 row.last index.1 in
      let scaled_order = product_le q.denominator (f.numerator greatest.0) (at row.first row.spacing row.last) positive
      (omega (arith, ints, value, order)) in
      let last_is = product_at q.denominator row.first row.spacing row.last
      ∙ ap (λ k. pos q.denominator *ℤ row.first +ℤ pos (row.last * k)) (sym d_is) in
      omega (arith, ints, from_first, scaled_order, last_is, greatest.2)

  divisor_positive : 0 < d
  divisor_positive = omega (arith, d_is, mul-lt-mul_of_pos_right {m = 0} {n = q.denominator} positive rises.spaced)

  -- no index lies between two neighbours
  gap : IsGap f (at row.first row.spacing (n / d)) (at row.first row.spacing (n / d + 1))
  gap k code =
      let index = rises.index k code in
      let value = value_of_index k index.0 index.1 index.2 in
      elim (cases_lt (n / d) index.0) [
        | inl beyond ↦ inr (omega (
          arith,
          ints,
          value,
          at_rises row.first row.spacing (n / d + 1) index.0
              (omega arith),
        ))
        | inr low ↦ inl (omega (arith, ints, value, at_rises row.first row.spacing index.0 (n / d) (omega arith)))
      ]

  pub index_inside : i ≤ row.last
  index_inside = rounds_at_most n d i row.last divisor_positive rounds at_most_last

  pub nearest_rising : IsNearest f q (row.code_at i)
  nearest_rising = nearest_by_rounding f q row.first row.spacing n d i (row.code_at i) (record {
    positive = positive;
    spaced = rises.spaced;
    from_first = from_first;
    divisor = d_is;
    gap = gap;
    rounds = rounds;
    written = rises.written i index_inside;
    value = rises.value i index_inside;
    parity = rises.parity i index_inside;
  })

-- in either direction
pub row_index : (f : Coding) (q : Fraction) (row : Row) (n d i : ℕ) → 0 < q.denominator → IsRow f row → IsInRange f q
    → n ≡ distance f q (row.code_at 0) → d ≡ q.denominator * row.spacing → Rounds n d i → i ≤ row.last
row_index f q row n d i positive (inl rises) range n_is d_is rounds =
    index_inside f q row n d i positive rises range n_is d_is rounds
row_index f q row n d i positive (inr falls) range n_is d_is rounds =
    index_inside (mirrored f) (negative q) row n d i positive falls (mirror_in_range f q range)
    (n_is ∙ sym (mirror_distance f q (f.numerator (row.code_at 0)))) d_is rounds

pub row_nearest : (f : Coding) (q : Fraction) (row : Row) (n d i : ℕ) → 0 < q.denominator → IsRow f row → IsInRange f q
    → n ≡ distance f q (row.code_at 0) → d ≡ q.denominator * row.spacing → Rounds n d i → IsNearest f q (row.code_at i)
row_nearest f q row n d i positive (inl rises) range n_is d_is rounds =
    nearest_rising f q row n d i positive rises range n_is d_is rounds
row_nearest f q row n d i positive (inr falls) range n_is d_is rounds =
    mirror_nearest f q (row.code_at i) (nearest_rising (mirrored f) (negative q) row n d i positive falls
    (mirror_in_range f q range) (n_is ∙ sym (mirror_distance f q (f.numerator (row.code_at 0)))) d_is rounds)
