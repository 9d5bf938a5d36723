-- How far a reply is after a byte of it, and what is told of its data.
use Rattle.std.specs.Prelude.{◌≡◌, ◌≢◌, ℕ, ◌+◌, ◌*◌, ◌<◌, ◌≤◌, Bool, true, if◌then◌else◌, Option, Some, None, List, []}
use Rattle.std.specs.Prelude.{◌∷◌, ◌++◌, length}
use Rattle.pmb_command.specs.declared.form.Form.{Form}
use Rattle.pmb_command.specs.Wire.{Fits, wire, wire_length}
use Rattle.pmb_value.specs.declared.number_format.NumberFormat.{NumberFormat}
use Rattle.pmb_host.specs.declared.reply.ReplyState.{ReplyState}
use Rattle.pmb_host.specs.declared.reply.ReplyState.TheVariants.{Short, Whole, BadPec}
use Rattle.pmb_value.specs.WordFault.{value_in}
use Rattle.pmb_host.specs.Steps.{ReplyData, AllBytes, told_word}

-- how many bytes a reply has that begins with these, with its packet error code
abbrev pub whole_length : Form → Bool → List ℕ → ℕ
whole_length form with_pec bytes = wire_length form bytes + (if with_pec then 1 else 0)

-- A reply is this far: these are its bytes, the last of them is `byte`, and `crc` is the packet
-- error code of all before it.
abbrev pub IsState : ReplyState → Form → Bool → List ℕ → ℕ → ℕ → Type 0
IsState Short form with_pec bytes byte crc = length bytes < whole_length form with_pec bytes
IsState Whole form with_pec bytes byte crc = (whole_length form with_pec bytes ≤ length bytes)
    × (with_pec ≡ true → byte ≡ crc)
IsState BadPec form with_pec bytes byte crc = (whole_length form with_pec bytes ≤ length bytes) × (with_pec ≡ true)
    × (byte ≢ crc)

-- The bytes begin with the wire of data.
pub record Holds (form : Form) (content bytes : List ℕ) : Type 0 where
  pub fits : Fits form content
  pub rest : List ℕ
  pub split : bytes ≡ wire form content ++ rest

-- what is told of data: the value of two bytes, where there is a format for it
abbrev pub told_data : Option NumberFormat → List ℕ → ReplyData
told_data None content = AllBytes content
told_data (Some format) [] = AllBytes []
told_data (Some format) (b ∷ []) = AllBytes (b ∷ [])
told_data (Some format) (low ∷ high ∷ []) = told_word (value_in format (low + 256 * high))
told_data (Some format) (b ∷ c ∷ d ∷ more) = AllBytes (b ∷ c ∷ d ∷ more)
