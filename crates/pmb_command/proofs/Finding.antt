-- What a search of a list finds: an element that passes the test, and whatever all elements pass.
-- For `standard`, `by_name` and the laws on the standard commands.
use Rattle.std.proofs.Common.{◌≡◌, Bool, true, false, cond, Option, Some, List, [], ◌∷◌, map, ◌⊎◌, inl, inr, refl, sym}
use Rattle.std.proofs.Common.{ap, ◌∙◌, subst}
use Rattle.std.specs.Prelude.{find, option_map}
use Rattle.std.specs.List.{list_all}
use Rattle.std.proofs.lemmas.Bool.{and_parts}
use Rattle.std.proofs.lemmas.Option.{none-some, same_Some}

-- the side of a choice that was taken
chosen : {X : Type 0} (b : Bool) (x y z : X) → cond b x y ≡ z → ((b ≡ true) × (x ≡ z)) ⊎ ((b ≡ false) × (y ≡ z))
chosen true x y z same = inl (refl, same)
chosen false x y z same = inr (refl, same)

-- what is found passes the test
pub find_passes : {X : Type 0} (p : X → Bool) (xs : List X) (x : X) → find p xs ≡ Some x → p x ≡ true
find_passes p [] x found = absurd (none-some x found)
find_passes p (y ∷ ys) x found =
    elim (chosen (p y) (Some y) (find p ys) (Some x) found) [
      | inl here ↦ subst (λ z. p z ≡ true) (same_Some y x here.1) here.0
      | inr later ↦ find_passes p ys x later.1
    ]

-- what every element passes, the one that is found passes
pub find_among : {X : Type 0} (p q : X → Bool) (xs : List X) (x : X) → list_all q xs ≡ true → find p xs ≡ Some x
    → q x ≡ true
find_among p q [] x every found = absurd (none-some x found)
find_among p q (y ∷ ys) x every found =
    let parts = and_parts (q y) (list_all q ys) every in
    elim (chosen (p y) (Some y) (find p ys) (Some x) found) [
      | inl here ↦ subst (λ z. q z ≡ true) (same_Some y x here.1) parts.0
      | inr later ↦ find_among p q ys x parts.1 later.1
    ]

-- a function of a choice
pub option_map-cond : {X Y : Type 0} (f : X → Y) (b : Bool) (x : X) (o : Option X)
    → option_map f (cond b (Some x) o) ≡ cond b (Some (f x)) (option_map f o)
option_map-cond f true x o = refl
option_map-cond f false x o = refl

-- to search what a function makes is to search what it is made of
pub find-map : {X Y : Type 0} (f : X → Y) (p : Y → Bool) (xs : List X)
    → find p (map f xs) ≡ option_map f (find (λ x. p (f x)) xs)
find-map f p [] = refl
find-map f p (x ∷ xs) = ap (cond (p (f x)) (Some (f x))) (find-map f p xs)
    ∙ sym (option_map-cond f (p (f x)) x (find (λ x. p (f x)) xs))
