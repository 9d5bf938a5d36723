-- What is ready before and after a call.
use Rattle.std.specs.Prelude.{◌≡◌, ℕ, List, ◌++◌}

-- One text begins another.
abbrev pub Begins : List ℕ → List ℕ → Type 0
Begins front text = (rest : List ℕ) × (text ≡ front ++ rest)
