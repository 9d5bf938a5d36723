-- Packet error codes after bytes.
use Rattle.std.specs.Prelude.{ℕ, Bool, true, false, List, [], ◌∷◌}
use Rattle.pmb_bus.specs.Pec.{pec}

-- the packet error code of bytes, where one follows them
abbrev pub code_behind : Bool → List ℕ → List ℕ
code_behind false bytes = []
code_behind true bytes = pec bytes ∷ []
