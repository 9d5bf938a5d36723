-- Keys that are numbered, and others after them: how many there are, and which one is at an index. For the phases of
-- a command, in the order of output.
use Rattle.std.proofs.Common.{◌≡◌, ℕ, zero, suc, ◌+◌, ◌<◌, Some, List, ◌++◌, length, map, ap, arith}
use Rattle.std.specs.List.{range_with_len, slice_get}

module _ {X : Type 0} (key : ℕ → X) (others : List X) where
  -- from the number `a` on, `n` of them
  pub numbered_count : (a n : ℕ) → length (map key (range_with_len a n) ++ others) ≡ n + length others
  numbered_count a zero = omega arith
  numbered_count a (suc n) = let more = numbered_count (a + 1) n in omega (arith, more)

  -- one of the numbered ones
  pub numbered_at : (a n i number : ℕ) → i < n → number ≡ a + i
      → slice_get (map key (range_with_len a n) ++ others) i ≡ Some (key number)
  numbered_at a zero i number within is = absurd (omega (arith, within))
  numbered_at a (suc n) zero number within is = ap (λ (k : ℕ). Some (key k)) (omega (arith, is))
  numbered_at a (suc n) (suc i) number within is =
      numbered_at (a + 1) n i number (omega (arith, within)) (omega (arith, is))

  -- one of the others
  pub other_at : (a n i k : ℕ) → i ≡ n + k
      → slice_get (map key (range_with_len a n) ++ others) i ≡ slice_get others k
  other_at a zero i k is = ap (slice_get others) (omega (arith, is))
  other_at a (suc n) zero k is = absurd (omega (arith, is))
  other_at a (suc n) (suc i) k is = other_at (a + 1) n i k (omega (arith, is))
