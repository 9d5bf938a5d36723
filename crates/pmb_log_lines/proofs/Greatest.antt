-- The greatest of the numbers of some elements, one element after the other: for the loops of `src/layout.rt`.
use Rattle.std.proofs.Common.{◌≡◌, ℕ, zero, suc, ◌+◌, ◌<◌, Some, List, [], ◌∷◌, length, map, take, max, refl, sym}
use Rattle.std.proofs.Common.{ap, ◌∙◌}
use Rattle.std.proofs.Common.{slice_get, arith, add-one}
use Rattle.std.proofs.lemmas.List.{take_all}
use Rattle.pmb_log_lines.specs.Layout.{greatest}

next : {A : Type 0} (f : A → ℕ) (xs : List A) (i n : ℕ) → i < length xs → ((x : A) → slice_get xs i ≡ Some x → n ≡ f x)
    → max (greatest (map f (take i xs))) n ≡ greatest (map f (take (suc i) xs))
next f [] i n within is = absurd (omega (arith, within))
next f (x ∷ xs) zero n within is = omega (arith, is x refl)
next f (x ∷ xs) (suc i) n within is =
    let more : max (greatest (map f (take i xs))) n ≡ greatest (map f (take (suc i) xs)) =
    next f xs i n (omega (arith, within)) is in
    let whole : max (max (f x) (greatest (map f (take i xs)))) n ≡ max (f x) (max (greatest (map f (take i xs))) n) =
    omega arith in
    whole ∙ ap (λ (m : ℕ). max (f x) m) more

-- one element more
pub greatest_more : {A : Type 0} (f : A → ℕ) (xs : List A) (i n : ℕ) → i < length xs
    → ((x : A) → slice_get xs i ≡ Some x → n ≡ f x)
    → max (greatest (map f (take i xs))) n ≡ greatest (map f (take (i + 1) xs))
greatest_more f xs i n within is =
    next f xs i n within is ∙ ap (λ (k : ℕ). greatest (map f (take k xs))) (sym (add-one i))

-- all elements
pub greatest_of_all : {A : Type 0} (f : A → ℕ) (xs : List A) (n : ℕ) → n ≡ length xs
    → greatest (map f (take n xs)) ≡ greatest (map f xs)
greatest_of_all f xs n all = ap (λ ys. greatest (map f ys)) (take_all n xs (omega (arith, all)))
