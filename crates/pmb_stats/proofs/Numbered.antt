-- How often a key comes among those that are numbered: of the pages of a device, or the phases of a command.
use Rattle.std.proofs.Common.{◌≡◌, ℕ, zero, suc, ◌+◌, ◌<◌, ◌≤◌, Bool, true, false, cond, List, ◌∷◌, ap, arith, eqb}
use Rattle.std.proofs.Common.{inl, inr, map, refl, ◌∙◌}
use Rattle.std.proofs.lemmas.Bool.{cases_eq, eq-eqb, ne_eqb}
use Rattle.std.proofs.lemmas.List.Sums.{sum_by-cons}
use Rattle.std.specs.List.{count_by, range_with_len}

-- a test, and keys by their numbers
module _ {X : Type 0} (p : X → Bool) (key : ℕ → X) where
  count_cons : (x : X) (xs : List X) → count_by p (x ∷ xs) ≡ cond (p x) 1 0 + count_by p xs
  count_cons x xs = sum_by-cons (λ k. cond (p k) 1 0) x xs

  one_if : (x : X) → p x ≡ true → cond {A = ℕ} (p x) 1 0 ≡ 1
  one_if x is = ap (λ (b : Bool). cond {A = ℕ} b 1 0) is

  none_if : (x : X) → p x ≡ false → cond {A = ℕ} (p x) 1 0 ≡ 0
  none_if x is = ap (λ (b : Bool). cond {A = ℕ} b 1 0) is

  -- what is none of them
  pub absent : ((number : ℕ) → p (key number) ≡ false) → (a n : ℕ) → count_by p (map key (range_with_len a n)) ≡ 0
  absent none a zero = refl
  absent none a (suc n) =
      omega (
        arith,
        count_cons (key a) (map key (range_with_len (a + 1) n)),
        none_if (key a) (none a),
        absent none (a + 1) n,
      )

  -- the test is whether it is this number
  abbrev pub IsNumber : ℕ → Type 0
  IsNumber number = (other : ℕ) → p (key other) ≡ eqb number other

  -- a number before all of them
  before : (number a n : ℕ) → IsNumber number → number < a → count_by p (map key (range_with_len a n)) ≡ 0
  before number a zero is less = refl
  before number a (suc n) is less =
      omega (
        arith,
        count_cons (key a) (map key (range_with_len (a + 1) n)),
        none_if (key a) (is a ∙ ne_eqb number a (λ (e : number ≡ a). omega arith)),
        before number (a + 1) n is (omega arith),
      )

  -- one of them
  pub within : (number a n : ℕ) → IsNumber number → a ≤ number → number < a + n
      → count_by p (map key (range_with_len a n)) ≡ 1
  within number a zero is least less = absurd (omega arith)
  within number a (suc n) is least less =
      let front = count_cons (key a) (map key (range_with_len (a + 1) n)) in
      elim (cases_eq number a) [
        | inl e ↦
            omega (arith, front, one_if (key a) (is a ∙ eq-eqb number a e), before number (a + 1) n is (omega arith))
        | inr ne ↦
            let next : a + 1 ≤ number = omega arith in
            omega (
              arith,
              front,
              none_if (key a) (is a ∙ ne_eqb number a ne),
              within number (a + 1) n is next (omega arith),
            )
      ]
