-- The names of the bits of status registers.
use Rattle.std.specs.Prelude.{ℕ, Option, Some, None, List}
use Rattle.pmb_command.specs.Parts.{NamedBit, name_of_bit}
use Rattle.pmb_command.specs.StatusBits.{bit_text}

-- the first name, or else the second
abbrev pub or_name : Option (List ℕ) → Option (List ℕ) → Option (List ℕ)
or_name None other = other
or_name (Some name) other = Some name

-- the name of a bit of the status register with a code, counted from 0 at the lowest: the one that the
-- profile gives it, or else the standard's
abbrev pub bit_text_in : List NamedBit → ℕ → ℕ → Option (List ℕ)
bit_text_in bits code bit = or_name (name_of_bit bit bits) (bit_text code bit)
