-- Codes that an encoder writes.
use Rattle.std.specs.Prelude.{ℕ}
use Rattle.pmb_format.specs.Coding.{Coding}

-- canonical codes
abbrev pub IsWritten : Coding → ℕ → Type 0
IsWritten f code = f.IsCode code × f.IsCanonical code

-- some word is a code
unfoldable pub HasCode : Coding → Type 0
HasCode f = (c : ℕ) × f.IsCode c
