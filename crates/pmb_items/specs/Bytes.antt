-- Bytes in rooms of fixed lengths, and numbers that may be missing.
use Rattle.std.specs.Prelude.{ℕ, ◌-◌, Bool, true, false, Option, Some, None, List, ◌++◌, length, replicate, take}
use Rattle.pmb_items.specs.declared.item.ItemLeg.{ItemLeg}
use Rattle.pmb_items.specs.declared.item.ItemText.{ItemText}

-- a number, where there is one
abbrev pub or_none : Option ℕ → ℕ
or_none None = 0xffff
or_none (Some n) = n

abbrev pub flag : Bool → ℕ
flag true = 1
flag false = 0

-- as many bytes as there is room for, and 0 after them
abbrev pub padded : ℕ → List ℕ → List ℕ
padded room bytes = take room bytes ++ replicate (room - length bytes) 0

abbrev pub leg : Option (List ℕ) → ItemLeg
leg None = record { length = 0xffff; bytes = replicate 258 0 }
leg (Some bytes) = record { length = length bytes; bytes = padded 258 bytes }

abbrev pub text : Option (List ℕ) → ItemText
text None = record { length = 0xffff; bytes = replicate 40 0 }
text (Some bytes) = record { length = length bytes; bytes = padded 40 bytes }
