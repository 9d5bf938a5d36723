-- A list cut at one of its items, and tests on lists. For the loops over names, and the contradictions among words.
use Rattle.std.proofs.Common.{◌≡◌, ◌≢◌, ◌∙◌, ℕ, ◌+◌, ◌<◌, ◌==◌, Bool, true, false, List, [], ◌∷◌, ◌++◌, length, map, take, drop, refl, sym, ap}
use Rattle.std.proofs.Common.{◌||◌, add-one, slice_index_or}
use Rattle.std.proofs.Math.Seq.{drop-cons}
use Rattle.std.proofs.lemmas.List.{map-append, take-append-drop}

-- a list, mapped, is the items before one, that one, and those after it
pub cut_at : {A B : Type 0} (f : A → B) (xs : List A) (i : ℕ) (d : A) → i < length xs
    → map f xs ≡ map f (take i xs) ++ (f (slice_index_or xs i d) ∷ map f (drop (i + 1) xs))
cut_at f xs i d within =
    ap (map f) (sym (take-append-drop i xs)) ∙ map-append f (take i xs) (drop i xs)
    ∙ ap (λ rest. map f (take i xs) ++ map f rest) (drop-cons xs i d within)
    ∙ ap (λ (n : ℕ). map f (take i xs) ++ (f (slice_index_or xs i d) ∷ map f (drop n xs))) (sym (add-one i))

-- neither of two tests holds
pub first_fails : (a b : Bool) → (a || b) ≡ false → a ≡ false
first_fails true b fails = fails
first_fails false b fails = refl

-- a list that has items has some when it is mapped
pub mapped_some : {A B : Type 0} (f : A → B) (xs : List A) → (length xs == 0) ≡ false → map f xs ≢ []
mapped_some f [] is none = cc
mapped_some f (x ∷ xs) is none = cc
