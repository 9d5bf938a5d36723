-- Searches among finitely many values (`Finite`): whether one of them has a decided property is
-- decided. For numbers below a bound, pairs, and lists of up to n values; so for the law
-- `viability_is_decided`, by FinitePackets, which searches all transactions that may have a packet.
-- A list is searched by its first element, then the others.
use Rattle.std.proofs.Common.{◌≡◌, ℕ, zero, suc, ◌<◌, ◌≤◌, ◌⊎◌, inl, inr, Bool, true, false, List, [], ◌∷◌, length}
use Rattle.std.proofs.Common.{refl, sym, ap, subst, arith}
use Rattle.std.specs.List.{AllByRecursion}
use Rattle.pmb_transaction.proofs.Decided.{Decided, either_way, one_of}

-- Whether one of some values has a property is decided, for each property that is.
abbrev pub Finite : (A : Type 0) → (A → Type 0) → Type 1
Finite A In = (P : A → Type 0) → ((a : A) → Decided (P a)) → Decided ((a : A) × In a × P a)

-- where what has the property is one of them
pub some_of : (A : Type 0) (In P : A → Type 0) → Finite A In → ((a : A) → P a → In a) → ((a : A) → Decided (P a))
    → Decided ((a : A) × P a)
some_of A In P finite are each =
    either_way ((a : A) × In a × P a) ((a : A) × P a) (λ w. (w.0, w.2)) (λ w. (w.0, are w.0 w.1, w.1)) (finite P each)

-- what is made of them
pub image : (A B : Type 0) (InA : A → Type 0) (InB : B → Type 0) (make : A → B) → ((a : A) → InA a → InB (make a))
    → ((b : B) → InB b → (a : A) × InA a × (make a ≡ b)) → Finite A InA → Finite B InB
image A B InA InB make in_there made finite P each =
    either_way ((a : A) × InA a × P (make a)) ((b : B) × InB b × P b) (λ w. (make w.0, in_there w.0 w.1, w.2))
    (λ w. let of_it = made w.0 w.1 in (of_it.0, of_it.1, subst P (sym of_it.2) w.2))
    (finite (λ a. P (make a)) (λ a. each (make a)))

-- pairs of them
pub pairs : (A B : Type 0) (InA : A → Type 0) (InB : B → Type 0) → Finite A InA → Finite B InB
    → Finite (A × B) (λ p. InA p.0 × InB p.1)
pairs A B InA InB first second P each =
    either_way ((a : A) × InA a × ((b : B) × InB b × P (a, b))) ((p : A × B) × (InA p.0 × InB p.1) × P p)
    (λ w. ((w.0, w.2.0), (w.1, w.2.1), w.2.2)) (λ w. (w.0.0, w.1.0, (w.0.1, w.1.1, w.2)))
    (first (λ a. (b : B) × InB b × P (a, b)) (λ a. second (λ b. P (a, b)) (λ b. each (a, b))))

-- ---- numbers below a bound

below_next : (n : ℕ) (P : ℕ → Type 0) → (k : ℕ) → k < suc n → P k → P n ⊎ ((j : ℕ) × (j < n) × P j)
below_next n P k less p = elim (at_bound k n less) as (λ w. P n ⊎ ((j : ℕ) × (j < n) × P j))
    [ inl same ↦ inl (subst P same p) | inr smaller ↦ inr (k, smaller, p) ]
  where
    at_bound : (k n : ℕ) → k < suc n → (k ≡ n) ⊎ (k < n)
    at_bound zero zero less = inl refl
    at_bound zero (suc n) less = inr (omega arith)
    at_bound (suc k) zero less = absurd (omega arith)
    at_bound (suc k) (suc n) less = elim (at_bound k n (omega arith)) as (λ w. (suc k ≡ suc n) ⊎ (suc k < suc n))
        [ inl same ↦ inl (ap suc same) | inr smaller ↦ inr (omega (arith, smaller)) ]

pub numbers : (n : ℕ) → Finite ℕ (λ k. k < n)
numbers zero P each = inr (λ w. let less : w.0 < 0 = w.1 in absurd (omega arith))
numbers (suc n) P each =
    either_way (P n ⊎ ((k : ℕ) × (k < n) × P k)) ((k : ℕ) × (k < suc n) × P k)
    (λ w. elim w [
      | inl here ↦ (n, omega arith, here)
      | inr later ↦
          (later.0, let less : later.0 < n = later.1 in omega arith, later.2)
    ])
    (λ w. below_next n P w.0 w.1 w.2)
    (one_of (P n) ((k : ℕ) × (k < n) × P k) (each n) (numbers n P each))

pub bools : Finite Bool (λ b. Unit {0})
bools P each =
    either_way (P true ⊎ P false) ((b : Bool) × Unit {0} × P b)
    (λ w. elim w [ inl yes_it ↦ (true, tt, yes_it) | inr no_it ↦ (false, tt, no_it) ])
    (λ w. either_bool P w.0 w.2)
    (one_of (P true) (P false) (each true) (each false))
  where
    either_bool : (P : Bool → Type 0) (b : Bool) → P b → P true ⊎ P false
    either_bool P true p = inl p
    either_bool P false p = inr p

-- ---- lists of few

-- few elements, each one of the values
abbrev pub Few : {A : Type 0} → (A → Type 0) → ℕ → List A → Type 0
Few In n xs = (length xs ≤ n) × AllByRecursion In xs

module _ (A : Type 0) (In : A → Type 0) where
  -- a list with the property is empty, or has a first element and others
  abbrev FirstAndOthers : ℕ → (List A → Type 0) → Type 0
  FirstAndOthers n P = (x : A) × In x × ((xs : List A) × Few In n xs × P (x ∷ xs))

  parted : (n : ℕ) (P : List A → Type 0) (xs : List A) → Few In (suc n) xs → P xs → P [] ⊎ FirstAndOthers n P
  parted n P [] few p = inl p
  parted n P (x ∷ xs) few p =
      let less : length xs ≤ n = omega (arith, few.0) in
      inr (x, few.1.0, (xs, (less, few.1.1), p))

  joined : (n : ℕ) (P : List A → Type 0) → P [] ⊎ FirstAndOthers n P → (xs : List A) × Few In (suc n) xs × P xs
  joined n P (inl p) = ([], (omega arith, tt), p)
  joined n P (inr w) =
      let less : length w.2.0 ≤ n = w.2.1.0 in
      (w.0 ∷ w.2.0, (omega (arith, less), (w.1, w.2.1.1)), w.2.2)

  none_parted : (P : List A → Type 0) (xs : List A) → length xs ≤ 0 → P xs → P []
  none_parted P [] few p = p
  none_parted P (x ∷ xs) few p = absurd (omega (arith, few))

  pub lists : Finite A In → (n : ℕ) → Finite (List A) (Few In n)
  lists finite zero P each =
      either_way (P []) ((xs : List A) × Few In 0 xs × P xs) (λ p. ([], (omega arith, tt), p))
      (λ w. none_parted P w.0 w.1.0 w.2) (each [])
  lists finite (suc n) P each =
      either_way (P [] ⊎ FirstAndOthers n P) ((xs : List A) × Few In (suc n) xs × P xs)
      (joined n P) (λ w. parted n P w.0 w.1 w.2)
      (
      one_of (P []) (FirstAndOthers n P) (each [])
      (
      finite (λ x. (xs : List A) × Few In n xs × P (x ∷ xs))
      (λ x. lists finite n (λ xs. P (x ∷ xs)) (λ xs. each (x ∷ xs)))
      )
      )

-- bytes, and few of them
pub bytes : Finite ℕ (λ b. b < 256)
bytes = numbers 256

pub data_bytes : (n : ℕ) → Finite (List ℕ) (Few (λ b. b < 256) n)
data_bytes n = lists ℕ (λ b. b < 256) bytes n
