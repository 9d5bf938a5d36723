-- Statements of which it is decided whether they hold (`Decided`), and how two of them together,
-- one of two, what is found by a search, and each element of a list are decided from these. For the
-- laws `viability_is_decided` and `each_list_has_a_reading`: a reading needs to know of each event
-- whether it may follow.
use Rattle.std.proofs.Common.{◌≡◌, ℕ, zero, suc, ◌<◌, ◌≤◌, ◌⊎◌, inl, inr, Bool, true, false, Option, Some, None, List}
use Rattle.std.proofs.Common.{[], ◌∷◌, ◌++◌, refl, sym, ap, subst, arith}
use Rattle.std.specs.List.{AllByRecursion}

abbrev pub Decided : Type 0 → Type 0
Decided P = P ⊎ (P → ⊥)

-- what holds where another thing does
pub either_way : (P Q : Type 0) → (P → Q) → (Q → P) → Decided P → Decided Q
either_way P Q there back (inl p) = inl (there p)
either_way P Q there back (inr none) = inr (λ q. none (back q))

pub both : (P Q : Type 0) → Decided P → Decided Q → Decided (P × Q)
both P Q (inl p) (inl q) = inl (p, q)
both P Q (inl p) (inr none) = inr (λ w. none w.1)
both P Q (inr none) other = inr (λ w. none w.0)

neither : (P Q : Type 0) → (P → ⊥) → (Q → ⊥) → P ⊎ Q → ⊥
neither P Q first second (inl p) = first p
neither P Q first second (inr q) = second q

pub one_of : (P Q : Type 0) → Decided P → Decided Q → Decided (P ⊎ Q)
one_of P Q (inl p) other = inl (inl p)
one_of P Q (inr none) (inl q) = inl (inr q)
one_of P Q (inr none) (inr no_other) = inr (neither P Q none no_other)

pub not_so : (P : Type 0) → Decided P → Decided (P → ⊥)
not_so P (inl p) = inr (λ none. none p)
not_so P (inr none) = inl none

-- what can't fail to hold
pub settled : (P : Type 0) → Decided P → ((P → ⊥) → ⊥) → P
settled P (inl p) fails = p
settled P (inr none) fails = absurd (fails none)

-- whether it holds
pub is_yes : {P : Type 0} → Decided P → Bool
is_yes (inl p) = true
is_yes (inr none) = false

pub yes_holds : {P : Type 0} → (d : Decided P) → is_yes d ≡ true → P
unfolding is_yes
yes_holds (inl p) is = p
yes_holds (inr none) is = absurd (cc is)

pub holds_yes : {P : Type 0} → (d : Decided P) → P → is_yes d ≡ true
unfolding is_yes
holds_yes (inl q) p = refl
holds_yes (inr none) p = absurd (none p)

-- ---- what is found

of_some_at : (A : Type 0) (a : A) (P : A → Type 0) → Decided (P a) → Decided ((b : A) × (Some a ≡ Some b) × P b)
of_some_at A a P (inl p) = inl (a, refl, p)
of_some_at A a P (inr none) = inr (λ w. let same : w.0 ≡ a = cc (w.1) in none (subst P same w.2))

-- what is there, and something holds of it
pub of_some : (A : Type 0) (o : Option A) (P : A → Type 0) → ((a : A) → Decided (P a))
    → Decided ((a : A) × (o ≡ Some a) × P a)
of_some A None P each = inr (λ w. cc (w.1))
of_some A (Some a) P each = of_some_at A a P (each a)

-- ---- tests, numbers and lists of them

pub same_bool : (a b : Bool) → Decided (a ≡ b)
same_bool true true = inl refl
same_bool true false = inr (λ same. cc same)
same_bool false true = inr (λ same. cc same)
same_bool false false = inl refl

pub same_number : (a b : ℕ) → Decided (a ≡ b)
same_number zero zero = inl refl
same_number zero (suc b) = inr (λ same. absurd (omega (arith, same)))
same_number (suc a) zero = inr (λ same. absurd (omega (arith, same)))
same_number (suc a) (suc b) =
    either_way (a ≡ b) (suc a ≡ suc b) (λ same. ap suc same) (λ same. omega (arith, same)) (same_number a b)

pub at_most : (a b : ℕ) → Decided (a ≤ b)
at_most zero b = inl (omega arith)
at_most (suc a) zero = inr (λ less. absurd (omega (arith, less)))
at_most (suc a) (suc b) =
    either_way (a ≤ b) (suc a ≤ suc b) (λ less. omega (arith, less)) (λ less. omega (arith, less)) (at_most a b)

pub below : (a b : ℕ) → Decided (a < b)
below a b = either_way (suc a ≤ b) (a < b) (λ less. omega (arith, less)) (λ less. omega (arith, less))
    (at_most (suc a) b)

-- each one of a list
pub of_each : (A : Type 0) (P : A → Type 0) → ((a : A) → Decided (P a)) → (xs : List A) → Decided (AllByRecursion P xs)
of_each A P each [] = inl tt
of_each A P each (x ∷ xs) = both (P x) (AllByRecursion P xs) (each x) (of_each A P each xs)

-- what a list begins with, where its elements are told apart
module _ (A : Type 0) (same : (a b : A) → Decided (a ≡ b)) where
  begins_at : (x y : A) (front all : List A) → Decided (x ≡ y) → Decided ((rest : List A) × (all ≡ front ++ rest))
      → Decided ((rest : List A) × (y ∷ all ≡ x ∷ front ++ rest))
  begins_at x y front all (inl here) (inl later) = inl (
    later.0,
    let split : all ≡ front ++ later.0 = later.1 in
        cc (here, split),
  )
  begins_at x y front all (inl here) (inr none) = inr (λ w. none (w.0, cc (w.1)))
  begins_at x y front all (inr other) later = inr (λ w. other (let first : y ≡ x = cc (w.1) in sym first))

  pub begins_with : (front all : List A) → Decided ((rest : List A) × (all ≡ front ++ rest))
  begins_with [] all = inl (all, refl)
  begins_with (x ∷ front) [] = inr (λ w. cc (w.1))
  begins_with (x ∷ front) (y ∷ all) = begins_at x y front all (same x y) (begins_with front all)
