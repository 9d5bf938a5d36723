-- Sums over lists.
use Rattle.std.proofs.Common.{◌≡◌, ℕ, ◌+◌, Bool, true, false, cond, List, [], ◌∷◌, ◌∙◌, ap, arith, flat_map, map, refl}
use Rattle.std.proofs.lemmas.List.Concat.{flat_map-cons}
use Rattle.std.proofs.lemmas.List.Sums.{sum_by-append, sum_by-cons}
use Rattle.std.specs.List.{count_by, sum_by}

-- a sum of sums
pub sum_both : {X : Type 0} (f g : X → ℕ) (xs : List X) → sum_by (λ x. f x + g x) xs ≡ sum_by f xs + sum_by g xs
sum_both f g [] = refl
sum_both f g (x ∷ xs) =
    omega (arith, sum_by-cons (λ y. f y + g y) x xs, sum_by-cons f x xs, sum_by-cons g x xs, sum_both f g xs)

pub sum_same : {X : Type 0} (f g : X → ℕ) → ((x : X) → f x ≡ g x) → (xs : List X) → sum_by f xs ≡ sum_by g xs
sum_same f g same [] = refl
sum_same f g same (x ∷ xs) = omega (arith, sum_by-cons f x xs, sum_by-cons g x xs, same x, sum_same f g same xs)

pub sum_none : {X : Type 0} (f : X → ℕ) → ((x : X) → f x ≡ 0) → (xs : List X) → sum_by f xs ≡ 0
sum_none f none [] = refl
sum_none f none (x ∷ xs) = omega (arith, sum_by-cons f x xs, none x, sum_none f none xs)

pub none_either : (b : Bool) → cond {A = ℕ} b 0 0 ≡ 0
none_either true = refl
none_either false = refl

-- the sum of a count that is at most 1, over those that pass a test
pub sum_where : {X : Type 0} (p : X → Bool) (b : Bool) (xs : List X)
    → sum_by (λ x. cond (p x) (cond b 1 0) 0) xs ≡ cond b (count_by p xs) 0
sum_where p true xs = refl
sum_where p false xs = sum_none (λ x. cond (p x) 0 0) (λ x. none_either (p x)) xs

-- over what each item comes to
pub sum_map : {X Y : Type 0} (f : Y → ℕ) (g : X → Y) (xs : List X) → sum_by f (map g xs) ≡ sum_by (λ x. f (g x)) xs
sum_map f g [] = refl
sum_map f g (x ∷ xs) =
    omega (arith, sum_by-cons f (g x) (map g xs), sum_by-cons (λ y. f (g y)) x xs, sum_map f g xs)

pub sum_flat_map : {X Y : Type 0} (f : Y → ℕ) (g : X → List Y) (xs : List X)
    → sum_by f (flat_map g xs) ≡ sum_by (λ x. sum_by f (g x)) xs
sum_flat_map f g [] = refl
sum_flat_map f g (x ∷ xs) =
    let first : sum_by f (flat_map g (x ∷ xs)) ≡ sum_by f (g x) + sum_by f (flat_map g xs)
    = ap (sum_by f) (flat_map-cons g x xs) ∙ sum_by-append f (g x) (flat_map g xs) in
    omega (arith, first, sum_by-cons (λ y. sum_by f (g y)) x xs, sum_flat_map f g xs)
