-- An element at the end of a list, or in place of another.
use Rattle.std.proofs.Common.{◌≡◌, ℕ, zero, suc, ◌<◌, Some, None, List, [], ◌∷◌, ◌++◌, ap, arith, refl, set}
use Rattle.std.proofs.Common.{get_or, slice_get, subst, ◌∙◌, length}
use Rattle.std.proofs.lemmas.Option.{none-some, same_Some, slice_get_past, slice_get_read}
use Rattle.std.proofs.lemmas.List.{with_items_is}
use Rattle.std.specs.Vec.{with_items}
use Rattle.std.specs.Global.{Vec}

-- what holds of the elements so far, and of one more, holds of all
pub pushed : {X : Type 0} (P : ℕ → X → Type 0) (xs : List X) (x : X)
    → ((i : ℕ) (y : X) → slice_get xs i ≡ Some y → P i y) → P (length xs) x
    → (i : ℕ) (y : X) → slice_get (xs ++ x ∷ []) i ≡ Some y → P i y
pushed P [] x each here zero y is = subst (P 0) (same_Some x y is) here
pushed P [] x each here (suc i) y is = absurd (none-some y is)
pushed P (z ∷ xs) x each here zero y is = each zero y is
pushed P (z ∷ xs) x each here (suc i) y is =
    pushed (λ k. P (suc k)) xs x (λ k. each (suc k)) here i y is

pub slice_get-set_same : {X : Type 0} (xs : List X) (i : ℕ) (y x : X) → slice_get xs i ≡ Some x
    → slice_get (set xs i y) i ≡ Some y
slice_get-set_same [] i y x e = absurd (none-some x e)
slice_get-set_same (z ∷ xs) zero y x e = refl
slice_get-set_same (z ∷ xs) (suc i) y x e = slice_get-set_same xs i y x e

pub slice_get-set_other : {X : Type 0} (xs : List X) (i k : ℕ) (y : X) → (k ≡ i → ⊥)
    → slice_get (set xs i y) k ≡ slice_get xs k
slice_get-set_other [] i k y ne = refl
slice_get-set_other (z ∷ xs) zero zero y ne = absurd (ne refl)
slice_get-set_other (z ∷ xs) zero (suc k) y ne = refl
slice_get-set_other (z ∷ xs) (suc i) zero y ne = refl
slice_get-set_other (z ∷ xs) (suc i) (suc k) y ne = slice_get-set_other xs i k y (λ e. ne (ap suc e))

-- what a vector has after its items were written through a slice
pub written : {X : Type 0} (v : Vec X) (lent after : List X) → length after ≡ length lent → length lent ≡ v.len
    → (with_items v after).items ≡ after
written v lent after kept long = with_items_is v after (kept ∙ long)

-- an item of a vector, and one that it lacks
pub has_item : {X : Type 0} (v : Vec X) (i : ℕ) (x : X) → i < v.len → x ≡ get_or v.items i x
    → slice_get v.items i ≡ Some x
has_item v i x within is = slice_get_read v.items v.len i x v.ok.0 within is

pub lacks_item : {X : Type 0} (v : Vec X) (i : ℕ) → (i < v.len → ⊥) → slice_get v.items i ≡ None
lacks_item v i past = slice_get_past v.items i (omega (arith, v.ok.0))
