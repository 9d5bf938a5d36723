-- The phases of a command of a device: for `has_code_bits`, `put_code_bits` and those for numbers.
use Rattle.std.proofs.Common.{◌≡◌, ◌∙◌, ℕ, Option, Some, None, List, [], ap, sym}
use Rattle.pmb_command.specs.Parts.{CommandParts, DeviceParts, command_with, device_with}
use Rattle.pmb_observed.specs.Spot.{phase_keys, phases_of}
use Rattle.pmb_observed.specs.Told.{command_phases, phases_if, phases_in}

module _ (profile : List DeviceParts) (device : DeviceParts) (addr code : ℕ)
    (known : device_with addr profile ≡ Some device) where
  -- a command that the device lacks has none
  pub no_phases : None ≡ command_with code device.commands → command_phases profile addr code ≡ []
  no_phases lacks = ap (λ (d : Option DeviceParts). phases_in d code) known ∙ ap (phases_if device) (sym lacks)

  pub phases_are : (command : CommandParts) (phases : Option ℕ) → Some command ≡ command_with code device.commands
      → phases ≡ phases_of device command → command_phases profile addr code ≡ phase_keys phases
  phases_are command phases found is =
      ap (λ (d : Option DeviceParts). phases_in d code) known ∙ ap (phases_if device) (sym found)
      ∙ sym (ap phase_keys is)
