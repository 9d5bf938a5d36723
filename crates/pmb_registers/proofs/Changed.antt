-- A change of each element of a list, one after another: for the loop of `change_each`. The first
-- i are changed and the others are as before; changing the element at i keeps that with i + 1.
use Rattle.std.proofs.Common.{◌≡◌, ℕ, zero, suc, ◌+◌, ◌<◌, List, [], ◌∷◌, ◌++◌, length, map, take, drop, set, get_or}
use Rattle.std.proofs.Common.{arith, add-one}

module _ {X Y : Type 0} (view : X → Y) (f : Y → Y) where
  changed_at : (xs ys : List X) (i : ℕ) (d after : X) → i < length xs → length ys ≡ length xs
      → map view ys ≡ map f (map view (take i xs)) ++ map view (drop i xs) → view after ≡ f (view (get_or ys i d))
      → map view (set ys i after) ≡ map f (map view (take (suc i) xs)) ++ map view (drop (suc i) xs)
  changed_at [] ys i d after within same_length so_far done = absurd (omega arith)
  changed_at (first ∷ xs) [] i d after within same_length so_far done = absurd (omega arith)
  changed_at (first ∷ xs) (y ∷ ys) zero d after within same_length so_far done = cc
  changed_at (first ∷ xs) (y ∷ ys) (suc i) d after within same_length so_far done =
      let rest : map view ys ≡ map f (map view (take i xs)) ++ map view (drop i xs) = cc in
      let behind = changed_at xs ys i d after (omega arith) (omega arith) rest done in
      cc

  -- one element more
  pub changed_more : (xs ys : List X) (i : ℕ) (d after : X) → i < length xs → length ys ≡ length xs
      → map view ys ≡ map f (map view (take i xs)) ++ map view (drop i xs) → view after ≡ f (view (get_or ys i d))
      → map view (set ys i after) ≡ map f (map view (take (i + 1) xs)) ++ map view (drop (i + 1) xs)
  changed_more xs ys i d after within same_length so_far done =
      rw add-one (changed_at xs ys i d after within same_length so_far done)
