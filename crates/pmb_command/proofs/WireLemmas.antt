-- What a form's length says of its wire: for `Form::wire_length`. A form of a fixed length takes
-- that alone.
use Rattle.std.proofs.Common.{◌≡◌, ℕ, ◌↔◌, List, arith, refl, sym}
use Rattle.pmb_command.specs.declared.form.Form.{Form}
use Rattle.pmb_command.specs.declared.form.Form.TheVariants.{Zero, One, Two, Four, Eight, Block}
use Rattle.pmb_command.specs.Wire.{Takes, wire_length}

-- the only length that a form takes is that of its wire
pub exact_wire : (form : Form) (exact : ℕ) (bytes : List ℕ) → ((n : ℕ) → Takes form n ↔ (n ≡ exact))
    → exact ≡ wire_length form bytes
exact_wire Zero exact bytes only = sym ((only 0).0 refl)
exact_wire One exact bytes only = sym ((only 1).0 refl)
exact_wire Two exact bytes only = sym ((only 2).0 refl)
exact_wire Four exact bytes only = sym ((only 4).0 refl)
exact_wire Eight exact bytes only = sym ((only 8).0 refl)
exact_wire Block exact bytes only = absurd (omega (arith, (only 0).0 (omega arith), (only 1).0 (omega arith)))
