-- Lists that are made alike from elements of which the same is told.
use Rattle.std.proofs.Common.{◌≡◌, ℕ, zero, suc, ◌+◌, ◌<◌, ◌≤◌, Bool, true, false, cond, List, [], ◌∷◌, ◌++◌}
use Rattle.std.proofs.Common.{ap, arith, filter, map, refl, sym, ◌∙◌}
use Rattle.std.specs.List.{AllByRecursion, flat_map, range_with_len}
use Rattle.std.proofs.lemmas.List.{map-append}

-- both parts of a list
pub both : {X : Type 0} {a b c d : List X} → a ≡ b → c ≡ d → a ++ c ≡ b ++ d
both {X} {a} {b} {c} first second = ap (λ xs. xs ++ c) first ∙ ap (λ xs. b ++ xs) second

-- one of two choices
pub either : {X : Type 0} (x y : X) (b c : Bool) (z : X) → b ≡ c → x ≡ y → cond b x z ≡ cond c y z
either x y b c z test same = ap (λ t. cond t x z) test ∙ ap (λ w. cond c w z) same

-- what holds of every number holds of those of a range
pub in_range : (P : ℕ → Type 0) (k from n : ℕ) → from + n ≤ k → ((i : ℕ) → i < k → P i)
    → AllByRecursion P (range_with_len from n)
in_range P k from zero small each = tt
in_range P k from (suc n) small each =
    (each from (omega arith), in_range P k (from + 1) n (omega arith) each)

pub everywhere : {A : Type 0} (P : A → Type 0) (xs : List A) → ((x : A) → P x) → AllByRecursion P xs
everywhere P [] each = tt
everywhere P (x ∷ xs) each = (each x, everywhere P xs each)

pub maps_alike : {A X : Type 0} (f g : A → X) (xs : List A) → ((x : A) → f x ≡ g x) → map f xs ≡ map g xs
maps_alike f g [] each = refl
maps_alike f g (x ∷ xs) each = ap (λ y. y ∷ map f xs) (each x) ∙ ap (λ ys. g x ∷ ys) (maps_alike f g xs each)

pub flat_alike : {A X : Type 0} (f g : A → List X) (xs : List A) → AllByRecursion (λ x. f x ≡ g x) xs
    → flat_map f xs ≡ flat_map g xs
flat_alike f g [] each = refl
flat_alike f g (x ∷ xs) each = both each.0 (flat_alike f g xs each.1)

-- what is shown of many lists, if it is of each
pub shown_alike : {A B X : Type 0} (show : B → X) (f g : A → List B) (xs : List A)
    → AllByRecursion (λ x. map show (f x) ≡ map show (g x)) xs
    → map show (flat_map f xs) ≡ map show (flat_map g xs)
shown_alike show f g [] each = refl
shown_alike show f g (x ∷ xs) each =
    map-append show (f x) (flat_map f xs)
    ∙ (both each.0 (shown_alike show f g xs each.1)
    ∙ sym (map-append show (g x) (flat_map g xs)))

-- what is made of those that pass a test
kept_alike : {X : Type 0} (b c : Bool) (x y : X) (xs ys : List X) → b ≡ c → x ≡ y → xs ≡ ys
    → cond b (x ∷ xs) xs ≡ cond c (y ∷ ys) ys
kept_alike b c x y xs ys test same rest =
    ap (λ t. cond t (x ∷ xs) xs) test
    ∙ (ap (λ z. cond c (z ∷ xs) xs) same ∙ ap (λ zs. cond c (y ∷ zs) zs) rest)

mapped_if : {A X : Type 0} (f : A → X) (b : Bool) (x : A) (xs : List A)
    → map f (cond b (x ∷ xs) xs) ≡ cond b (f x ∷ map f xs) (map f xs)
mapped_if f true x xs = refl
mapped_if f false x xs = refl

pub some_alike : {A X : Type 0} (p q : A → Bool) (f g : A → X) (xs : List A)
    → AllByRecursion (λ x. (p x ≡ q x) × (f x ≡ g x)) xs → map f (filter p xs) ≡ map g (filter q xs)
some_alike p q f g [] each = refl
some_alike p q f g (x ∷ xs) each =
    mapped_if f (p x) x (filter p xs)
    ∙ (kept_alike (p x) (q x) (f x) (g x) (map f (filter p xs)) (map g (filter q xs)) each.0.0 each.0.1
    (some_alike p q f g xs each.1)
    ∙ sym (mapped_if g (q x) x (filter q xs)))
