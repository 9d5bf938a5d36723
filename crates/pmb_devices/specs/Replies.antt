-- What a device's registers hold, whatever was done with it since it was made, and replies that a
-- host reads by Asks alone.
use Rattle.std.specs.Prelude.{◌≡◌, ◌⊎◌, ℕ, ◌<◌, false, Some, List, [], ◌∷◌, length}
use Rattle.pmb_command.specs.declared.form.Form.{Form}
use Rattle.pmb_command.specs.Fitting.{register_form}
use Rattle.pmb_command.specs.Parts.{CommandParts, DeviceParts, command_with}
use Rattle.pmb_command.specs.Wire.{Takes}
use Rattle.pmb_registers.specs.State.{DeviceState, held}
use Rattle.pmb_registers.specs.Answer.{all_pages}
use Rattle.pmb_device.specs.Legs.{Legs, Outside, Inside, sent}

-- what the register of a code holds on a page: as many bytes as its form takes
pub record Holds (state : DeviceState) (code page : ℕ) (form : Form) : Type 0 where
  pub bytes : List ℕ
  pub held_is : held page code state.registers ≡ Some bytes
  pub taken : Takes form (length bytes)

-- A state that fits its device: one of its pages is selected, or all; and a command with a register
-- has one on each page, or one for all where it is not paged.
pub record IsState (device : DeviceParts) (state : DeviceState) : Type 0 where
  pub page : (state.page < device.pages) ⊎ (state.page ≡ all_pages)
  pub holds : (code page : ℕ) (command : CommandParts) (form : Form) → command_with code device.commands ≡ Some command
      → register_form command.entry.shape ≡ Some form → (page < device.pages) ⊎ (command.entry.paged ≡ false)
      → Holds state code page form

-- In the leg under way the host sent an address and no byte after it.
abbrev pub HasAddressAlone : Legs → Type 0
HasAddressAlone Outside = ⊥
HasAddressAlone (Inside earlier leg) = (address : ℕ) × (sent leg ≡ address ∷ [])
