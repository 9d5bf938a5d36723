-- Laws over the definitions alone.
use Rattle.std.specs.Prelude.{◌≡◌, ℕ, ◌+◌, ◌%◌, ◌<◌, ◌⊎◌, ◌<ℤ◌, ◌≤ℤ◌}
use Rattle.pmb_quantity.specs.Fraction.{Fraction}
use Rattle.pmb_format.specs.Coding.{Coding, IsNearest, value_of}

-- a code nearest to the value of a code has that value
abbrev pub KeepsValues : Coding → Type 0
KeepsValues f = (code nearest : ℕ) → f.IsCode code → IsNearest f (value_of f code) nearest
    → f.numerator nearest ≡ f.numerator code

-- no two codes are nearest to one quantity
abbrev pub HasOneNearest : Coding → Type 0
HasOneNearest f = (q : Fraction) (a b : ℕ) → 0 < q.denominator → IsNearest f q a → IsNearest f q b → a ≡ b

-- canonical codes of equal value are equal
abbrev pub HasOneCode : Coding → Type 0
HasOneCode f = (a b : ℕ) → f.IsCode a → f.IsCode b → f.IsCanonical a → f.IsCanonical b → f.numerator a ≡ f.numerator b
    → a ≡ b

-- each code has a canonical one of its value
abbrev pub HasCanonicalCodes : Coding → Type 0
HasCanonicalCodes f = (k : ℕ) → f.IsCode k → (c : ℕ) × f.IsCode c × f.IsCanonical c × (f.numerator c ≡ f.numerator k)

-- the value of one code, and the next greater value
abbrev pub AreNeighbours : Coding → ℕ → ℕ → Type 0
AreNeighbours f a b = (f.numerator a <ℤ f.numerator b)
    × ((k : ℕ) → f.IsCode k → (f.numerator k ≤ℤ f.numerator a) ⊎ (f.numerator b ≤ℤ f.numerator k))

-- of two neighbouring values exactly one has an even canonical code
abbrev pub HasOneEvenNeighbour : Coding → Type 0
HasOneEvenNeighbour f = (a b : ℕ) → f.IsCode a → f.IsCode b → f.IsCanonical a → f.IsCanonical b → AreNeighbours f a b
    → a % 2 + b % 2 ≡ 1
