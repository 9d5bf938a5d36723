-- Why something is a fault, in the words that are told.
use Rattle.std.specs.Prelude.{ℕ, List, ◌++◌, codes, decimal}
use Rattle.pmb_wires.specs.declared.signal.Wire.{Wire}
use Rattle.pmb_wires.specs.declared.signal.Wire.TheVariants.{Scl, Sda}

abbrev pub does_not_follow : List ℕ
does_not_follow = codes "does not follow"

abbrev pub is_x : Wire → List ℕ
is_x Scl = codes "SCL is x"
is_x Sda = codes "SDA is x"

-- SCL was low for longer than so many thousandths of a second
abbrev pub was_low : ℕ → List ℕ
was_low timeout = codes "SCL was low for over " ++ (decimal timeout ++ codes " ms")

abbrev pub stop_may_be_lost : List ℕ
stop_may_be_lost = codes "a STOP may be lost in front"
