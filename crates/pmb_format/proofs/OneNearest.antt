-- No two codes are nearest to one quantity, and of two neighbours one is even: for `obeys_laws` of
-- the formats. Two nearest codes would be at the same distance and both even, and between two such
-- lies a nearer one (`IsSeparated`).
use Rattle.std.proofs.Common.{◌≡◌, ℕ, ◌%◌, ◌<◌, inl, inr, ◌<ℤ◌, sym, ◌∙◌, arith}
use Rattle.std.proofs.lemmas.Int.{ints, by_lt_z}
use Rattle.std.proofs.lemmas.Bool.{cases_eq}
use Rattle.pmb_quantity.specs.Fraction.{Fraction}
use Rattle.pmb_format.specs.Coding.{Coding, IsNearest, distance}
use Rattle.pmb_format.specs.Laws.{HasOneNearest, HasOneCode, HasCanonicalCodes, AreNeighbours, HasOneEvenNeighbour}
use Rattle.pmb_format.proofs.Nearest.{not_best}

-- Each value has one canonical code, and between two values whose canonical codes have one parity
-- lies another, so of two neighbours one is even.
pub record IsSeparated (f : Coding) : Type 0 where
  -- each value has one canonical code,
  pub one_code : HasOneCode f
  -- and has one
  pub canonical_codes : HasCanonicalCodes f
  -- between two of one parity lies another code
  pub between : (a b : ℕ) → f.IsCode a → f.IsCode b → f.IsCanonical a → f.IsCanonical b → a % 2 ≡ b % 2
      → f.numerator a <ℤ f.numerator b → (j : ℕ) × f.IsCode j × (f.numerator a <ℤ f.numerator j)
      × (f.numerator j <ℤ f.numerator b)

-- no code lies between neighbours
apart : (f : Coding) (a b : ℕ) → AreNeighbours f a b → (j : ℕ) → f.IsCode j → f.numerator a <ℤ f.numerator j
    → f.numerator j <ℤ f.numerator b → ⊥
apart f a b neighbours j code above below =
    elim (neighbours.1 j code) [
      | inl low ↦ omega (arith, ints, low, above)
      | inr high ↦ omega
          (arith, ints, high, below)
    ]

pub one_even_neighbour : (f : Coding) → IsSeparated f → HasOneEvenNeighbour f
one_even_neighbour f separated a b a_code b_code a_canonical b_canonical neighbours =
    elim (cases_eq (a % 2) (b % 2)) [
      | inl same ↦
          let middle = separated.between a b a_code b_code a_canonical b_canonical same neighbours.0 in
          absurd (apart f a b neighbours middle.0 middle.1 middle.2 middle.3)
      | inr other ↦ omega arith
    ]

-- two nearest codes are equally far
equally_far : (f : Coding) (q : Fraction) (a b : ℕ) → IsNearest f q a → IsNearest f q b
    → distance f q b ≡ distance f q a
equally_far f q a b a_nearest b_nearest =
    omega (arith, a_nearest.none_nearer b b_nearest.is_code, b_nearest.none_nearer a a_nearest.is_code)

-- so both would be even, and a code between them nearer
not_less : (f : Coding) (q : Fraction) (a b : ℕ) → IsSeparated f → 0 < q.denominator → IsNearest f q a → IsNearest f q b
    → f.numerator a <ℤ f.numerator b → ⊥
not_less f q a b separated positive a_nearest b_nearest less =
    let tie : distance f q b ≡ distance f q a = equally_far f q a b a_nearest b_nearest in
    let a_even : a % 2 ≡ 0 = a_nearest.even_at_tie b b_nearest.is_code (λ same. omega (arith, ints, less)) tie in
    let b_even : b % 2 ≡ 0 = b_nearest.even_at_tie a a_nearest.is_code (λ same. omega (arith, ints, less)) (sym tie) in
    let middle = separated.between a b a_nearest.is_code b_nearest.is_code a_nearest.canonical b_nearest.canonical
    (a_even ∙ sym b_even) less in
    let nearer : distance f q middle.0 < distance f q a = not_best f q a b middle.0 positive tie middle.2 middle.3 in
    omega (arith, a_nearest.none_nearer middle.0 middle.1, nearer)

pub has_one_nearest : (f : Coding) → IsSeparated f → HasOneNearest f
has_one_nearest f separated q a b positive a_nearest b_nearest =
    by_lt_z (f.numerator a) (f.numerator b) (λ less. absurd
    (not_less f q a b separated positive a_nearest b_nearest less)) (λ at_most.
    by_lt_z (f.numerator b) (f.numerator a) (λ more. absurd
    (not_less f q b a separated positive b_nearest a_nearest more)) (λ at_least.
    separated.one_code a b a_nearest.is_code b_nearest.is_code a_nearest.canonical b_nearest.canonical
    (omega (arith, ints, at_most, at_least))))
