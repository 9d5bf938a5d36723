-- Codes whose values are evenly spaced: their ends, and that they are separated, so that their
-- laws hold. For `obeys_laws` of an evenly spaced format and the codes of DIRECT. The value at an
-- index is the first one plus that many spacings; a falling row is the mirror image of a rising
-- one.
use Rattle.std.proofs.Common.{◌≡◌, ℕ, ◌+◌, ◌*◌, ◌%◌, ◌<◌, ◌≤◌, inl, inr, ℤ, pos, neg_ℤ, ◌+ℤ◌, ◌*ℤ◌, ◌<ℤ◌, ◌≤ℤ◌, sym, ap}
use Rattle.std.proofs.Common.{◌∙◌, arith}
use Rattle.std.proofs.lemmas.Int.{ints}
use Rattle.std.proofs.lemmas.Bool.{cases_lt}
use Rattle.std.proofs.Math.IntN.{*ℤ_comm, neg_ℤ-neg_ℤ}
use Rattle.std.proofs.Math.Nat.{mul_comm, mul-lt-mul_of_pos_right}
use Rattle.pmb_format.specs.Coding.{Coding}
use Rattle.pmb_format.specs.Laws.{HasOneCode}
use Rattle.pmb_format.specs.Row.{Row, Rises, IsRow, IsLeast, IsGreatest, mirrored}
use Rattle.pmb_format.proofs.Products.{product-sum}
use Rattle.pmb_format.proofs.Rounded.{at}
use Rattle.pmb_format.proofs.Rows.{at_rises}
use Rattle.pmb_format.proofs.OneNearest.{IsSeparated}

-- a sum in front
pub sum-product : (x : ℤ) (i p : ℕ) → (x +ℤ pos i) *ℤ pos p ≡ x *ℤ pos p +ℤ pos (i * p)
sum-product x i p =
    *ℤ_comm (x +ℤ pos i) (pos p) ∙ product-sum p x (pos i) ∙ ap (λ z. z +ℤ pos (p * i)) (*ℤ_comm (pos p) x)
    ∙ ap (λ k. x *ℤ pos p +ℤ pos k) (mul_comm p i)

-- values of different indices are different
at_less : (first : ℤ) (spacing i j : ℕ) → 0 < spacing → i < j → at first spacing i <ℤ at first spacing j
at_less first spacing i j some less = omega (arith, ints, mul-lt-mul_of_pos_right {m = i} {n = j} less some)

-- ---- the ends of a row

module _ (f : Coding) (row : Row) (rises : Rises f row) where
  code_is : (i : ℕ) → i ≤ row.last → f.IsCode (row.code_at i)
  code_is i inside = let w = rises.written i inside in w.0

  order : (i j : ℕ) → i ≤ j → j ≤ row.last → f.numerator (row.code_at i) ≤ℤ f.numerator (row.code_at j)
  order i j less inside = omega (
    arith,
    ints,
    rises.value i (omega arith),
    rises.value j inside,
    at_rises row.first row.spacing i j less,
  )

  pub first_is_least : IsLeast f (row.code_at 0)
  first_is_least = record {
    is_code = code_is 0 (omega arith);
    least = λ k code.
        let index = rises.index k code in
        let same = ap f.numerator index.2 in
        omega (arith, ints, order 0 index.0 (omega arith) index.1, same);
  }

  pub last_is_greatest : IsGreatest f (row.code_at row.last)
  last_is_greatest = record {
    is_code = code_is row.last (omega arith);
    greatest = λ k code.
        let index = rises.index k code in
        let same = ap f.numerator index.2 in
        omega (arith, ints, order index.0 row.last index.1 (omega arith), same);
  }

  -- ---- the laws

  at_index : (k : ℕ) → f.IsCode k → (i : ℕ) × (i ≤ row.last) × (row.code_at i ≡ k)
      × (f.numerator k ≡ at row.first row.spacing i)
  at_index k code =
      let index = rises.index k code in
      (index.0, index.1, index.2, ap f.numerator (sym index.2) ∙ rises.value index.0 index.1)

  -- the index rises with the value
  index_less : (a b : ℕ) (a_code : f.IsCode a) (b_code : f.IsCode b) → f.numerator a <ℤ f.numerator b
      → (at_index a a_code).0 < (at_index b b_code).0
  index_less a b a_code b_code less =
      let i = at_index a a_code in
      let j = at_index b b_code in
      elim (cases_lt i.0 j.0) [
        | inl order ↦ order
        | inr other ↦ absurd (omega (arith, ints, less, i.3, j.3, at_rises row.first row.spacing j.0 i.0 other))
      ]

  row_one_code : HasOneCode f
  row_one_code a b a_code b_code a_canonical b_canonical same =
      -- the index of each code
      let i = at_index a a_code in
      let j = at_index b b_code in
      -- unequal indices have unequal values
      elim (cases_lt i.0 j.0) [
        | inl less ↦ absurd (omega (
          arith,
          ints,
          same,
          i.3,
          j.3,
          at_less row.first row.spacing i.0 j.0 rises.spaced less,
        ))
        | inr others ↦
            elim (cases_lt j.0 i.0) [
              | inl more ↦ absurd (omega (
                arith,
                ints,
                same,
                i.3,
                j.3,
                at_less row.first row.spacing j.0 i.0 rises.spaced more,
              ))
              -- so the index is one, and the code at it
              | inr none ↦
                  let one : i.0 ≡ j.0 = omega arith in
                  sym i.2 ∙ ap row.code_at one ∙ j.2
            ]
      ]

  row_between : (a b : ℕ) → f.IsCode a → f.IsCode b → f.IsCanonical a → f.IsCanonical b → a % 2 ≡ b % 2
      → f.numerator a <ℤ f.numerator b → (j : ℕ) × f.IsCode j × (f.numerator a <ℤ f.numerator j)
      × (f.numerator j <ℤ f.numerator b)
  row_between a b a_code b_code a_canonical b_canonical parity less =
      let i = at_index a a_code in
      let j = at_index b b_code in
      let order = index_less a b a_code b_code less in
      let same_parity : i.0 % 2 ≡ j.0 % 2 = sym (rises.parity i.0 i.1) ∙ ap (λ k. k % 2) i.2 ∙ parity
      ∙ ap (λ k. k % 2) (sym j.2) ∙ rises.parity j.0 j.1 in
      let inside : i.0 + 1 ≤ row.last = omega (arith, order, j.1) in
      let value = rises.value (i.0 + 1) inside in (
        row.code_at (i.0 + 1),
        code_is (i.0 + 1) inside,
        omega (arith, ints, i.3, value, at_less row.first row.spacing i.0 (i.0 + 1) rises.spaced (omega arith)),
        omega (
          arith,
          ints,
          j.3,
          value,
          at_less row.first row.spacing (i.0 + 1) j.0 rises.spaced
              (omega (arith, order, same_parity)),
        ),
      )

  pub rises_separated : IsSeparated f
  rises_separated = record {
    one_code = row_one_code;
    canonical_codes = λ k code.
        let index = at_index k code in
        let written = rises.written index.0 index.1 in
        (row.code_at index.0, written.0, written.1, ap f.numerator index.2);
    between = row_between;
  }

-- the same for a falling row
mirror_separated : (f : Coding) → IsSeparated (mirrored f) → IsSeparated f
mirror_separated f separated = record {
  one_code = λ a b a_code b_code a_canonical b_canonical same. separated.one_code a b a_code b_code a_canonical
      b_canonical (ap neg_ℤ same);
  canonical_codes = λ k code.
      let c = separated.canonical_codes k code in
      (c.0, c.1, c.2, sym (neg_ℤ-neg_ℤ (f.numerator c.0)) ∙ ap neg_ℤ c.3 ∙ neg_ℤ-neg_ℤ (f.numerator k));
  between = λ a b a_code b_code a_canonical b_canonical parity less.
      let middle = separated.between b a b_code a_code b_canonical a_canonical (sym parity)
      (omega (arith, ints, less)) in
      (middle.0, middle.1, omega (arith, ints, middle.3), omega (arith, ints, middle.2));
}

pub row_separated : (f : Coding) (row : Row) → IsRow f row → IsSeparated f
row_separated f row (inl rises) = rises_separated f row rises
row_separated f row (inr falls) = mirror_separated f (rises_separated (mirrored f) row falls)

-- a falling one
pub first_is_greatest : (f : Coding) (row : Row) → Rises (mirrored f) row → IsGreatest f (row.code_at 0)
first_is_greatest f row falls =
    let is = first_is_least (mirrored f) row falls in
    record { is_code = is.is_code; greatest = λ k code. let order = is.least k code in omega (arith, ints, order) }

pub last_is_least : (f : Coding) (row : Row) → Rises (mirrored f) row → IsLeast f (row.code_at row.last)
last_is_least f row falls =
    let is = last_is_greatest (mirrored f) row falls in
    record { is_code = is.is_code; least = λ k code. let order = is.greatest k code in omega (arith, ints, order) }
