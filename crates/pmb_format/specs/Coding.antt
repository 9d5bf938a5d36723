-- What a number format is, and which of its codes is nearest to a quantity.
use Rattle.std.specs.Prelude.{◌≡◌, ◌≢◌, ℕ, ◌%◌, ◌^◌, ◌<◌, ◌≤◌, ℤ, pos, ◌-ℤ◌, ◌*ℤ◌, ◌<ℤ◌, ◌≤ℤ◌, unsigned_abs}
use Rattle.pmb_quantity.specs.Fraction.{Fraction, lowest_terms}

-- which words are codes, the value of each as a whole number over one denominator, and the codes
-- that an encoder writes
pub record Coding : Type 1 where
  pub IsCode : ℕ → Type 0
  pub numerator : ℕ → ℤ
  pub denominator : ℕ
  pub IsCanonical : ℕ → Type 0

-- two bytes
abbrev pub IsWord : ℕ → Type 0
IsWord code = code < 2 ^ 16

-- every code is canonical
abbrev pub IsAnyCode : ℕ → Type 0
IsAnyCode _ = Unit {0}

-- the value of a code
abbrev pub value_of : Coding → ℕ → Fraction
value_of f code = lowest_terms (f.numerator code) f.denominator

-- both sides of `quantity = value of the code`, over the product of their denominators
abbrev pub scaled : Coding → Fraction → ℤ
scaled f q = q.numerator *ℤ pos f.denominator

abbrev pub scaled_code : Coding → Fraction → ℕ → ℤ
scaled_code f q code = pos q.denominator *ℤ f.numerator code

-- how far a quantity is from a code, over that product
abbrev pub distance : Coding → Fraction → ℕ → ℕ
distance f q code = unsigned_abs (scaled f q -ℤ scaled_code f q code)

-- no code is nearer, and among two that are equally near the even one is taken
pub record IsNearest (f : Coding) (q : Fraction) (code : ℕ) : Type 0 where
  pub is_code : f.IsCode code
  pub canonical : f.IsCanonical code
  pub none_nearer : (k : ℕ) → f.IsCode k → distance f q code ≤ distance f q k
  pub even_at_tie : (k : ℕ) → f.IsCode k → f.numerator k ≢ f.numerator code → distance f q k ≡ distance f q code
      → code % 2 ≡ 0

-- the quantity is under every value of the format
abbrev pub IsBelow : Coding → Fraction → Type 0
IsBelow f q = (k : ℕ) → f.IsCode k → scaled f q <ℤ scaled_code f q k

-- the quantity is over every value of the format
abbrev pub IsAbove : Coding → Fraction → Type 0
IsAbove f q = (k : ℕ) → f.IsCode k → scaled_code f q k <ℤ scaled f q

-- the quantity is at or over the value of some code
abbrev pub ReachesSome : Coding → Fraction → Type 0
ReachesSome f q = (k : ℕ) × f.IsCode k × (scaled_code f q k ≤ℤ scaled f q)

-- the value of some code is at or over the quantity
abbrev pub IsReachedBySome : Coding → Fraction → Type 0
IsReachedBySome f q = (k : ℕ) × f.IsCode k × (scaled f q ≤ℤ scaled_code f q k)

-- the quantity is from the least value of the format to the greatest
pub record IsInRange (f : Coding) (q : Fraction) : Type 0 where
  pub from_least : ReachesSome f q
  pub to_greatest : IsReachedBySome f q
