-- Sums of counts, one count after the other: for `total`.
use Rattle.std.proofs.Common.{◌≡◌, ℕ, ◌+◌, ◌<◌, List, [], ◌∷◌, ◌++◌, length, get_or, map, sum, take, ap, ◌∙◌, arith}
use Rattle.std.proofs.lemmas.Grind.{common_steps}
use Rattle.std.proofs.lemmas.List.{take_more}
use Rattle.pmb_io.specs.Count.{capped}

sum_of_more : {X : Type 0} (f : X → ℕ) (xs : List X) (x : X) → sum (map f (xs ++ x ∷ [])) ≡ sum (map f xs) + f x
sum_of_more f xs x = grind (arith, common_steps)

-- the sum of the first elements, with one more
pub sum_more : {X : Type 0} (f : X → ℕ) (xs : List X) (i : ℕ) (d : X) → i < length xs
    → capped (capped (sum (map f (take i xs))) + f (get_or xs i d)) ≡ capped (sum (map f (take (i + 1) xs)))
sum_more {X} f xs i d within =
    let whole : sum (map f (take (i + 1) xs)) ≡ sum (map f (take i xs)) + f (get_or xs i d) =
    ap (λ (ys : List X). sum (map f ys)) (take_more xs i d within) ∙ sum_of_more f (take i xs) (get_or xs i d) in
    omega (arith, whole)
