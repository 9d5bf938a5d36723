-- What is appended piece by piece.
use Rattle.std.specs.Prelude.{◌≡◌, ℕ, ◌+◌, ◌≤◌, Bool, true, false, IsUtf8, List, ◌++◌, length}
use Rattle.pmb_value.specs.declared.sign.Sign.{Sign}
use Rattle.pmb_value.specs.declared.sign.Sign.TheVariants.{Signed, Unsigned}

-- A text is appended to bytes, which makes them longer by so many at most.
pub record Appends (text : List ℕ) (most : ℕ) (old new : List ℕ) : Type 0 where
  pub items : new ≡ old ++ text
  pub longer : length new ≤ length old + most
  pub utf8 : IsUtf8 text

-- words count in two's complement
abbrev pub is_signed : Sign → Bool
is_signed Signed = true
is_signed Unsigned = false
