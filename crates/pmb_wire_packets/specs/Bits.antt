-- The byte of eight bits.
use Rattle.std.specs.Prelude.{ℕ, ◌+◌, true, false, Bool, List, [], ◌∷◌}

abbrev pub weight : Bool → ℕ → ℕ
weight true value = value
weight false value = 0

-- the highest bit comes first
abbrev pub byte_of : List Bool → ℕ
byte_of (a ∷ b ∷ c ∷ d ∷ e ∷ f ∷ g ∷ h ∷ []) =
    (weight a 128 + weight b 64 + weight c 32 + weight d 16)
    + weight e 8 + weight f 4 + weight g 2 + weight h 1
byte_of bits = 0
