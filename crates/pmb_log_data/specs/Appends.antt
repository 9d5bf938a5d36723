-- What is appended piece by piece.
use Rattle.std.specs.Prelude.{◌≡◌, ℕ, ◌+◌, ◌≤◌, List, ◌++◌, length}

-- A text is appended to bytes, which makes them longer by that many bytes at most.
pub record Appends (text : List ℕ) (most : ℕ) (old new : List ℕ) : Type 0 where
  pub items : new ≡ old ++ text
  pub longer : length new ≤ length old + most
