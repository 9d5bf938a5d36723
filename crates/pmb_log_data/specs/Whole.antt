-- All the data of a command, and the packet error code of what was sent.
use Rattle.std.specs.Prelude.{ℕ, ◌%◌, Option, None, List, [], ◌∷◌}
use Rattle.pmb_bus.specs.Address.{write_address}
use Rattle.pmb_bus.specs.Pec.{pec}
use Rattle.pmb_command.specs.declared.form.Form.{Form}
use Rattle.pmb_command.specs.Parts.{DeviceParts}
use Rattle.pmb_transaction.specs.Body.{forms}

-- the packet error code of a leg: of the byte with its address in bits 7 to 1, and of what was sent after it
abbrev pub leg_code : ℕ → List ℕ → ℕ
leg_code addr bytes = pec (write_address addr % 256 ∷ bytes)

-- the form of a reply: that of a call where data were sent after the code, else that of a read
abbrev pub reply_form : DeviceParts → List ℕ → Option Form
reply_form device [] = None
reply_form device (code ∷ []) = (forms device code).read
reply_form device (code ∷ b ∷ bytes) = (forms device code).call
