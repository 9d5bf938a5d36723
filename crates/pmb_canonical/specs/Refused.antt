-- Data that are whole, and data of which something is left to come.
use Rattle.std.specs.Prelude.{◌≡◌, ℕ, Bool, false, Option, Some, None, is_some, List, [], ◌∷◌}
use Rattle.pmb_command.specs.declared.form.Form.{Form}
use Rattle.pmb_command.specs.declared.form.Shape.{Shape}
use Rattle.pmb_command.specs.declared.pec_mode.PecMode.{PecMode}
use Rattle.pmb_command.specs.PecMode.{AllowsPec}
use Rattle.pmb_command.specs.Wire.{Fits, wire}
use Rattle.pmb_transaction.specs.Body.{IsProperPrefix, checked}

-- Bytes are data in a form, where there is one.
abbrev pub AreData : Option Form → List ℕ → Type 0
AreData None bytes = ⊥
AreData (Some form) bytes = (data_bytes : List ℕ) × Fits form data_bytes × (bytes ≡ wire form data_bytes)

-- Data in a form, where there is one, begin with some bytes and continue, if only with a packet
-- error code, which the mode has to allow. It covers what stands before them too.
abbrev pub IsInsideData : Option Form → PecMode → List ℕ → List ℕ → Type 0
IsInsideData None mode before bytes = ⊥
IsInsideData (Some form) mode before bytes =
    (data_bytes : List ℕ) × (with_pec : Bool) × Fits form data_bytes × AllowsPec mode with_pec
    × IsProperPrefix bytes (checked with_pec before (wire form data_bytes))

-- A command of these forms is read by its code alone, and nothing stands after that.
abbrev pub is_read : Shape → List ℕ → Bool
is_read shape [] = is_some shape.read
is_read shape (byte ∷ behind) = false
