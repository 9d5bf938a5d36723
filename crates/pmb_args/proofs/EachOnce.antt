-- A list without what stands earlier in it: for `--device`, which may name a device more than once
-- (`read_devices` and `read_address`, through `Addresses`), and for `--fail-on` (`read_fails`, through
-- `FailWords`). One more is added if it is not there yet, as the code does it; and of numbers below n at
-- most n are left, so that 128 addresses and 6 words are enough. Items are told apart by a number that each has.
use Rattle.std.proofs.Common.{◌≡◌, ◌≢◌, ℕ, zero, suc, ◌+◌, ◌<◌, ◌≤◌, ◌==◌, ◌||◌, Bool, true, false, cond, not, List, []}
use Rattle.std.proofs.Common.{◌∷◌, ◌++◌, length, map, refl, sym, ap, ◌∙◌, subst, arith, eq-eqb}
use Rattle.std.specs.Prelude.{nat_eq}
use Rattle.std.specs.List.{filter, list_any}
use Rattle.std.proofs.lemmas.Bool.{eqb-true}
use Rattle.std.proofs.lemmas.List.{append-nil}
use Rattle.std.proofs.lemmas.List.Elements.{filter-append}
use Rattle.pmb_args.specs.Once.{each_once}

-- one is among others
abbrev pub has : {A : Type 0} → (A → A → Bool) → A → List A → Bool
has same a = list_any (λ y. same y a)

-- those that are not x
abbrev pub without : {A : Type 0} → (A → A → Bool) → A → List A → List A
without same x = filter (λ y. not (same y x))

-- equal numbers, the other way round
turned : (a b : ℕ) (t : Bool) → (a == b) ≡ t → (b == a) ≡ t
turned a b true same = eq-eqb b a (sym (eqb-true a b same))
turned a b false apart = by (b == a) refl
  where
    by : (t : Bool) → (b == a) ≡ t → t ≡ false
    by true same = let clash : true ≡ false = sym (eq-eqb a b (sym (eqb-true b a same))) ∙ apart in clash
    by false same = refl

module _ {A : Type 0} (same : A → A → Bool) (number : A → ℕ)
    (tells : (a b : A) → same a b ≡ (number a == number b)) where
  turned_same : (a b : A) (t : Bool) → same a b ≡ t → same b a ≡ t
  turned_same a b t is = tells b a ∙ turned (number a) (number b) t (sym (tells a b) ∙ is)

  -- two that are one are alike to a third
  alike : (x y a : A) → same y x ≡ true → same y a ≡ same x a
  alike x y a one = tells y a ∙ ap (λ n. n == number a) (eqb-true (number y) (number x) (sym (tells y x) ∙ one))
      ∙ sym (tells x a)

  -- ---- those that are not x

  -- one that is not x stays
  has_without : (x a : A) (ys : List A) → same x a ≡ false → has same a (without same x ys) ≡ has same a ys
  has_without x a [] apart = refl
  has_without x a (y ∷ ys) apart = by (same y x) refl (has_without x a ys apart)
    where
      by : (t : Bool) → same y x ≡ t → has same a (without same x ys) ≡ has same a ys
          → has same a (cond (not t) (y ∷ without same x ys) (without same x ys)) ≡ (same y a || has same a ys)
      by true one rest = rest ∙ ap (λ b. b || has same a ys) (sym (alike x y a one ∙ apart))
      by false other rest = ap (λ b. same y a || b) rest

  -- x is not among them
  none_left : (x : A) (ys : List A) → has same x (without same x ys) ≡ false
  none_left x [] = refl
  none_left x (y ∷ ys) = by (same y x) refl (none_left x ys)
    where
      by : (t : Bool) → same y x ≡ t → has same x (without same x ys) ≡ false
          → has same x (cond (not t) (y ∷ without same x ys) (without same x ys)) ≡ false
      by true one rest = rest
      by false other rest = ap (λ b. b || has same x (without same x ys)) other ∙ rest

  -- ---- one more

  step : (x a : A) (ys : List A) → (x ∷ without same x (cond (has same a ys) ys (ys ++ a ∷ [])))
      ≡ cond (same x a || has same a (without same x ys)) (x ∷ without same x ys) ((x ∷ without same x ys) ++ a ∷ [])
  step x a ys = by (same x a) refl
    where
      at_end : without same x (ys ++ a ∷ []) ≡ without same x ys ++ without same x (a ∷ [])
      at_end = filter-append (λ y. not (same y x)) ys (a ∷ [])

      dropped : same a x ≡ true → (h : Bool) → without same x (cond h ys (ys ++ a ∷ [])) ≡ without same x ys
      dropped one true = refl
      dropped one false =
          at_end ∙ ap (λ t. without same x ys ++ cond (not t) (a ∷ []) []) one ∙ append-nil (without same x ys)

      kept : same a x ≡ false → (h : Bool) → (x ∷ without same x (cond h ys (ys ++ a ∷ [])))
          ≡ cond h (x ∷ without same x ys) ((x ∷ without same x ys) ++ a ∷ [])
      kept apart true = refl
      kept apart false =
          ap (λ zs. x ∷ zs) (at_end ∙ ap (λ t. without same x ys ++ cond (not t) (a ∷ []) []) apart)

      by : (t : Bool) → same x a ≡ t → (x ∷ without same x (cond (has same a ys) ys (ys ++ a ∷ [])))
          ≡ cond (t || has same a (without same x ys)) (x ∷ without same x ys) ((x ∷ without same x ys) ++ a ∷ [])
      by true one = ap (λ zs. x ∷ zs) (dropped (turned_same x a true one) (has same a ys))
      by false apart =
          kept (turned_same x a false apart) (has same a ys)
          ∙ ap (λ h. cond h (x ∷ without same x ys) ((x ∷ without same x ys) ++ a ∷ []))
          (sym (has_without x a ys apart))

  -- one more is one more of them, where it is not among them yet
  pub each_once_more : (xs : List A) (a : A) → each_once same (xs ++ a ∷ [])
      ≡ cond (has same a (each_once same xs)) (each_once same xs) (each_once same xs ++ a ∷ [])
  each_once_more [] a = refl
  each_once_more (x ∷ xs) a = ap (λ ys. x ∷ without same x ys) (each_once_more xs a) ∙ step x a (each_once same xs)

  -- ---- their numbers

  numbers_without : (x : A) (ys : List A) → map number (without same x ys) ≡ without nat_eq (number x) (map number ys)
  numbers_without x [] = refl
  numbers_without x (y ∷ ys) = by (same y x) (tells y x) (numbers_without x ys)
    where
      by : (t : Bool) → t ≡ (number y == number x)
          → map number (without same x ys) ≡ without nat_eq (number x) (map number ys)
          → map number (cond (not t) (y ∷ without same x ys) (without same x ys))
          ≡ cond (not (number y == number x)) (number y ∷ without nat_eq (number x) (map number ys))
          (without nat_eq (number x) (map number ys))
      by true is rest = rest ∙ ap (λ t. cond (not t) (number y ∷ without nat_eq (number x) (map number ys))
          (without nat_eq (number x) (map number ys))) is
      by false is rest = ap (λ ns. number y ∷ ns) rest
          ∙ ap (λ t. cond (not t) (number y ∷ without nat_eq (number x) (map number ys))
          (without nat_eq (number x) (map number ys))) is

  -- each number comes once
  pub numbers_once : (xs : List A) → map number (each_once same xs) ≡ each_once nat_eq (map number xs)
  numbers_once [] = refl
  numbers_once (x ∷ xs) = ap (λ ns. number x ∷ ns)
      (numbers_without x (each_once same xs) ∙ ap (without nat_eq (number x)) (numbers_once xs))

-- ---- there are few of them

-- each of them differs from all after it
abbrev Apart : List ℕ → Type 0
Apart [] = Unit {0}
Apart (x ∷ xs) = (has nat_eq x xs ≡ false) × Apart xs

abbrev pub Below : ℕ → List ℕ → Type 0
Below n [] = Unit {0}
Below n (x ∷ xs) = (x < n) × Below n xs

apart_without : (n : ℕ) (xs : List ℕ) → Apart xs → Apart (without nat_eq n xs)
apart_without n [] apart = tt
apart_without n (x ∷ xs) apart = by (x == n) refl (apart_without n xs apart.1)
  where
    by : (t : Bool) → (x == n) ≡ t → Apart (without nat_eq n xs)
        → Apart (cond (not t) (x ∷ without nat_eq n xs) (without nat_eq n xs))
    by true same rest = rest
    by false other rest =
        (has_without nat_eq (λ (m : ℕ). m) (λ a b. refl) n x xs (turned x n false other) ∙ apart.0, rest)

each_once_apart : (xs : List ℕ) → Apart (each_once nat_eq xs)
each_once_apart [] = tt
each_once_apart (x ∷ xs) = (
  none_left nat_eq (λ (m : ℕ). m) (λ a b. refl) x (each_once nat_eq xs),
  apart_without x (each_once nat_eq xs) (each_once_apart xs),
)

below_without : (n m : ℕ) (xs : List ℕ) → Below m xs → Below m (without nat_eq n xs)
below_without n m [] below = tt
below_without n m (x ∷ xs) below = by (x == n) (below_without n m xs below.1)
  where
    by : (t : Bool) → Below m (without nat_eq n xs)
        → Below m (cond (not t) (x ∷ without nat_eq n xs) (without nat_eq n xs))
    by true rest = rest
    by false rest = (below.0, rest)

below_once : (n : ℕ) (xs : List ℕ) → Below n xs → Below n (each_once nat_eq xs)
below_once n [] below = tt
below_once n (x ∷ xs) below = (below.0, below_without x n (each_once nat_eq xs) (below_once n xs below.1))

-- without the greatest they are below it
below_greatest : (n : ℕ) (xs : List ℕ) → Below (suc n) xs → Below n (without nat_eq n xs)
below_greatest n [] below = tt
below_greatest n (x ∷ xs) below = by (x == n) refl (below_greatest n xs below.1)
  where
    differs : (x == n) ≡ false → x ≢ n
    differs other same = let clash : true ≡ false = sym (eq-eqb x n same) ∙ other in cc

    by : (t : Bool) → (x == n) ≡ t → Below n (without nat_eq n xs)
        → Below n (cond (not t) (x ∷ without nat_eq n xs) (without nat_eq n xs))
    by true same rest = rest
    by false other rest = (omega (arith, below.0, differs other), rest)

-- none is dropped where n is not among them
none_dropped : (n : ℕ) (xs : List ℕ) → has nat_eq n xs ≡ false → length (without nat_eq n xs) ≡ length xs
none_dropped n [] none = refl
none_dropped n (x ∷ xs) none = by (x == n) none (none_dropped n xs)
  where
    by : (t : Bool) → (t || has nat_eq n xs) ≡ false
        → (has nat_eq n xs ≡ false → length (without nat_eq n xs) ≡ length xs)
        → length (cond (not t) (x ∷ without nat_eq n xs) (without nat_eq n xs)) ≡ suc (length xs)
    by true clash rest = cc
    by false other rest = ap suc (rest other)

one_dropped : (n : ℕ) (xs : List ℕ) → Apart xs → length xs ≤ length (without nat_eq n xs) + 1
one_dropped n [] apart = omega arith
one_dropped n (x ∷ xs) apart = by (x == n) refl (one_dropped n xs apart.1)
  where
    by : (t : Bool) → (x == n) ≡ t → length xs ≤ length (without nat_eq n xs) + 1
        → length (x ∷ xs) ≤ length (cond (not t) (x ∷ without nat_eq n xs) (without nat_eq n xs)) + 1
    by true same rest =
        omega (arith, none_dropped n xs (subst (λ z. has nat_eq z xs ≡ false) (eqb-true x n same) apart.0))
    by false other rest = omega (arith, rest)

few : (n : ℕ) (xs : List ℕ) → Apart xs → Below n xs → length xs ≤ n
few n [] apart below = omega arith
few zero (x ∷ xs) apart below = absurd (omega (arith, below.0))
few (suc n) (x ∷ xs) apart below =
    omega (
      arith,
      one_dropped n (x ∷ xs) apart,
      few n (without nat_eq n (x ∷ xs)) (apart_without n (x ∷ xs) apart)
          (below_greatest n (x ∷ xs) below),
    )

-- of numbers below n there are n at most
pub once_few : (n : ℕ) (xs : List ℕ) → Below n xs → length (each_once nat_eq xs) ≤ n
once_few n xs below = few n (each_once nat_eq xs) (each_once_apart xs) (below_once n xs below)
