-- Where a reader of a line's words stops, for lines of any kind: `Stands s left` says that the words
-- before `left` lead to the place `s`.
use Rattle.std.specs.Prelude.{◌≡◌, ◌≢◌, ℕ, Option, Some, None, List, [], ◌∷◌}

-- A word does not fit.
pub record IsUnfit {S W : Type 0} (Stands : S → List W → Type 0) (step : S → W → Option S) (at : W → ℕ)
    (place : ℕ) : Type 0 where
  pub s : S
  pub word : W
  pub left : List W
  pub stands : Stands s (word ∷ left)
  pub unfit : step s word ≡ None
  pub place_is : place ≡ at word

-- A word is missing at the end.
pub record IsShort {S W R : Type 0} (Stands : S → List W → Type 0) (nothing : S) (finish : S → Option R) (length : ℕ)
    (place : ℕ) : Type 0 where
  pub s : S
  pub stands : Stands s []
  pub begun : nothing ≢ s
  pub unfinished : finish s ≡ None
  pub place_is : place ≡ length

-- A word fits, but there is no room.
pub record IsFull {S W : Type 0} (Stands : S → List W → Type 0) (step : S → W → Option S) (Room : S → Type 0)
    (at : W → ℕ) (place : ℕ) : Type 0 where
  pub s : S
  pub word : W
  pub left : List W
  pub after : S
  pub stands : Stands s (word ∷ left)
  pub fits : step s word ≡ Some after
  pub full : Room after → ⊥
  pub place_is : place ≡ at word
