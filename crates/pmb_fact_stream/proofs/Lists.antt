-- Fronts of lists. For `keep_start`, which keeps the first 17 STARTs of a packet, for `put_parts`,
-- and for `put_counts` and `put_bad_word`. A front of a front is a front, and what comes after a
-- full one changes nothing.
use Rattle.std.proofs.Common.{◌≡◌, ℕ, zero, suc, ◌+◌, ◌≤◌, List, [], ◌∷◌, ◌++◌, length, map, take, drop, get_or, refl}
use Rattle.std.proofs.Common.{sym, ap, ◌∙◌, arith}
use Rattle.std.proofs.Math.ListN.{get_or-map}
use Rattle.std.specs.List.{range_with_len}

-- lists that end with one thing are one where they are equal
pub same_last : {A : Type 0} (a b : List A) (x y : A) → a ++ x ∷ [] ≡ b ++ y ∷ [] → x ≡ y
same_last [] [] x y same = cc same
same_last [] (d ∷ []) x y same = absurd (cc same)
same_last [] (d ∷ e ∷ b) x y same = absurd (cc same)
same_last (c ∷ []) [] x y same = absurd (cc same)
same_last (c ∷ e ∷ a) [] x y same = absurd (cc same)
same_last (c ∷ a) (d ∷ b) x y same = same_last a b x y (cc same)

-- a front of so many is a front of more
pub take_take : {A : Type 0} (k n : ℕ) (xs : List A) → k ≤ n → take k (take n xs) ≡ take k xs
take_take zero n xs few = refl
take_take (suc k) zero xs few = absurd (omega (arith, few))
take_take (suc k) (suc n) [] few = refl
take_take {A = A} (suc k) (suc n) (x ∷ xs) few = ap (λ (l : List A). x ∷ l) (take_take k n xs (omega (arith, few)))

-- and so within it
pub take_drop_take : {A : Type 0} (i k n : ℕ) (xs : List A) → i + k ≤ n
    → take k (drop i (take n xs)) ≡ take k (drop i xs)
take_drop_take zero k n xs few = take_take k n xs (omega (arith, few))
take_drop_take (suc i) k zero xs few = absurd (omega (arith, few))
take_drop_take (suc i) k (suc n) [] few = refl
take_drop_take (suc i) k (suc n) (x ∷ xs) few = take_drop_take i k n xs (omega (arith, few))

-- what is after a front of n doesn't matter to the front of a longer list
pub take_behind : {A : Type 0} (n : ℕ) (xs ys : List A) → take n (take n xs ++ ys) ≡ take n (xs ++ ys)
take_behind zero xs ys = refl
take_behind (suc n) [] ys = refl
take_behind {A = A} (suc n) (x ∷ xs) ys = ap (λ (l : List A). x ∷ l) (take_behind n xs ys)

-- numbers, and one more
pub range_more : (a n : ℕ) → range_with_len a (suc n) ≡ range_with_len a n ++ (a + n) ∷ []
range_more a zero =
    let here : a ≡ a + 0 = omega arith in
    ap (λ (k : ℕ). k ∷ []) here
range_more a (suc n) =
    let there : (a + 1) + n ≡ a + suc n = omega arith in
    ap (λ (l : List ℕ). a ∷ l) (range_more (a + 1) n ∙ ap (λ (k : ℕ). range_with_len (a + 1) n ++ k ∷ []) there)

-- where so many are there already, one more is cut
pub full_front : {A : Type 0} (n : ℕ) (xs ys : List A) → length xs ≡ n → take n (xs ++ ys) ≡ xs
full_front zero [] ys full = refl
full_front zero (x ∷ xs) ys full = absurd (omega (arith, full))
full_front (suc n) [] ys full = absurd (omega (arith, full))
full_front {A = A} (suc n) (x ∷ xs) ys full = ap (λ (l : List A). x ∷ l) (full_front n xs ys (omega (arith, full)))

-- what stands at an index
pub got : {A B : Type 0} (f : A → B) (xs : List A) (i : ℕ) (x : A) → x ≡ get_or xs i x → get_or (map f xs) i (f x) ≡ f x
got f xs i x is = get_or-map f xs i x ∙ ap f (sym is)
