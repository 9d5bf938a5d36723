-- Of the codes of a number format only one is nearest to a quantity: for `one_word`. By the
-- format's own laws (`HasOneCode`, `HasOneEvenNeighbour`): two nearest codes would be neighbours
-- at the same distance, and both even, which two neighbours are not.
use Rattle.std.proofs.Common.{◌≡◌, ℕ, ◌%◌, ◌<◌, inl, inr, ◌<ℤ◌, sym, arith}
use Rattle.std.proofs.lemmas.Int.{ints, by_lt_z}
use Rattle.pmb_quantity.specs.Fraction.{Fraction}
use Rattle.pmb_format.specs.Coding.{Coding, IsNearest, distance}
use Rattle.pmb_format.specs.Laws.{AreNeighbours, HasOneCode, HasOneEvenNeighbour, HasOneNearest}
use Rattle.pmb_format.proofs.Nearest.{not_best}

module _ (f : Coding) (one_even : HasOneEvenNeighbour f) (q : Fraction) (positive : 0 < q.denominator) where
  equally_far : (a b : ℕ) → IsNearest f q a → IsNearest f q b → distance f q b ≡ distance f q a
  equally_far a b first second = omega (arith, first.none_nearer b second.is_code, second.none_nearer a first.is_code)

  -- a code between them would be nearer, so they are neighbours
  are_neighbours : (a b : ℕ) → IsNearest f q a → IsNearest f q b → f.numerator a <ℤ f.numerator b → AreNeighbours f a b
  are_neighbours a b first second less =
      let between = λ (k : ℕ) (is_code : f.IsCode k) (above : f.numerator a <ℤ f.numerator k)
      (below : f.numerator k <ℤ f.numerator b).
      let nearer : distance f q k < distance f q a =
      not_best f q a b k positive (equally_far a b first second) above below in
      absurd (omega (arith, first.none_nearer k is_code, nearer)) in (
        less,
        λ k is_code. by_lt_z (f.numerator a) (f.numerator k)
            (λ above. by_lt_z (f.numerator k) (f.numerator b) (λ below. between k is_code above below)
            (λ at_least. inr at_least)) (λ at_most. inl at_most),
      )

  -- and both even, which two neighbours are not
  not_less : (a b : ℕ) → IsNearest f q a → IsNearest f q b → f.numerator a <ℤ f.numerator b → ⊥
  not_less a b first second less =
      let tie = equally_far a b first second in
      let a_even : a % 2 ≡ 0 = first.even_at_tie b second.is_code (λ same. omega (arith, ints, less)) tie in
      let b_even : b % 2 ≡ 0 = second.even_at_tie a first.is_code (λ same. omega (arith, ints, less)) (sym tie) in
      let one = one_even a b first.is_code second.is_code first.canonical second.canonical
      (are_neighbours a b first second less) in
      omega (arith, a_even, b_even, one)

pub one_nearest : (f : Coding) → HasOneCode f → HasOneEvenNeighbour f → HasOneNearest f
one_nearest f one_code one_even q a b positive first second =
    by_lt_z (f.numerator a) (f.numerator b) (λ less. absurd (not_less f one_even q positive a b first second less))
    (λ at_most.
    by_lt_z (f.numerator b) (f.numerator a) (λ more. absurd (not_less f one_even q positive b a second first more))
    (λ at_least.
    one_code a b first.is_code second.is_code first.canonical second.canonical
    (omega (arith, ints, at_most, at_least))))
