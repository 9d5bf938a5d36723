-- Codes whose values are evenly spaced.
use Rattle.std.specs.Prelude.{◌≡◌, ℕ, ◌*◌, ◌%◌, ◌<◌, ◌≤◌, ◌⊎◌, ℤ, pos, neg_ℤ, ◌+ℤ◌, ◌≤ℤ◌}
use Rattle.pmb_format.specs.Coding.{Coding}
use Rattle.pmb_format.specs.Written.{IsWritten}

-- a code of each index from 0 to the last, the first numerator, and how far each is from the next
pub record Row : Type 0 where
  pub first : ℤ
  pub spacing : ℕ
  pub last : ℕ
  pub code_at : ℕ → ℕ

-- the row has every code once, each is canonical, with the parity of its index, and values rise
pub record Rises (f : Coding) (row : Row) : Type 0 where
  pub positive : 0 < f.denominator
  pub spaced : 0 < row.spacing
  pub written : (i : ℕ) → i ≤ row.last → IsWritten f (row.code_at i)
  pub value : (i : ℕ) → i ≤ row.last → f.numerator (row.code_at i) ≡ row.first +ℤ pos (i * row.spacing)
  pub parity : (i : ℕ) → i ≤ row.last → row.code_at i % 2 ≡ i % 2
  pub index : (k : ℕ) → f.IsCode k → (i : ℕ) × (i ≤ row.last) × (row.code_at i ≡ k)

-- each value with the other sign
abbrev pub mirrored : Coding → Coding
mirrored f = record f { numerator = λ code. neg_ℤ (f.numerator code) }

-- values rise or fall along the row
abbrev pub IsRow : Coding → Row → Type 0
IsRow f row = Rises f row ⊎ Rises (mirrored f) row

-- a code at one end of the range
pub record IsLeast (f : Coding) (code : ℕ) : Type 0 where
  pub is_code : f.IsCode code
  pub least : (k : ℕ) → f.IsCode k → f.numerator code ≤ℤ f.numerator k

pub record IsGreatest (f : Coding) (code : ℕ) : Type 0 where
  pub is_code : f.IsCode code
  pub greatest : (k : ℕ) → f.IsCode k → f.numerator k ≤ℤ f.numerator code
