-- The first values of a list and one more, up to a limit: for `kept`.
use Rattle.std.proofs.Common.{◌≡◌, ℕ, zero, suc, ◌-◌, ◌^◌, ◌<◌, ◌≤◌, List, [], ◌∷◌, ◌++◌, length, take}
use Rattle.std.proofs.Common.{refl, ap, arith}
use Rattle.std.proofs.lemmas.List.{length-take, take-append-le}
use Rattle.pmb_mean.specs.Numbers.{NumberData, kept}

take_none : (limit : ℕ) → take limit (let none : List NumberData = [] in none) ≡ []
take_none zero = refl
take_none (suc limit) = refl

-- fewer than the limit
take_more : (limit : ℕ) (xs : List NumberData) (x : NumberData) → length (take limit xs) < limit
    → take limit (xs ++ x ∷ []) ≡ take limit xs ++ x ∷ []
take_more zero xs x room = absurd (omega arith)
take_more (suc limit) [] x room = ap (λ ys. x ∷ ys) (take_none limit)
take_more (suc limit) (y ∷ ys) x room = ap (λ zs. y ∷ zs) (take_more limit ys x (omega arith))

-- as many as the limit
take_full : (limit : ℕ) (xs : List NumberData) (x : NumberData) → limit ≤ length (take limit xs)
    → take limit (xs ++ x ∷ []) ≡ take limit xs
take_full limit xs x full =
    take-append-le limit xs (x ∷ []) (omega (arith, length-take limit xs))

pub kept_none : kept [] ≡ []
unfolding kept
kept_none = take_none (2 ^ 64 - 1)

pub kept_more : (numbers : List NumberData) (n : NumberData) → length (kept numbers) < 2 ^ 64 - 1
    → kept (numbers ++ n ∷ []) ≡ kept numbers ++ n ∷ []
unfolding kept
kept_more numbers n room = take_more (2 ^ 64 - 1) numbers n room

pub kept_full : (numbers : List NumberData) (n : NumberData) → 2 ^ 64 - 1 ≤ length (kept numbers)
    → kept (numbers ++ n ∷ []) ≡ kept numbers
unfolding kept
kept_full numbers n full = take_full (2 ^ 64 - 1) numbers n full
