-- The phases of a command of a device: for `put_code_bits` and `put_code_numbers`.
use Rattle.std.proofs.Common.{◌≡◌, ◌∙◌, ℕ, Option, Some, None, List, [], ap}
use Rattle.pmb_command.specs.Parts.{CommandParts, DeviceParts, command_with, device_with}
use Rattle.pmb_observed.specs.Spot.{phase_keys, phases_of}
use Rattle.pmb_observed.specs.Told.{command_phases, phases_if, phases_in}

module _ (profile : List DeviceParts) (addr code : ℕ) where
  -- a device that the profile lacks has no commands
  pub no_device : None ≡ device_with addr profile → [] ≡ command_phases profile addr code
  no_device lacks = ap (λ (d : Option DeviceParts). phases_in d code) lacks

  -- a command that the device lacks has no phases
  pub no_command : (device : DeviceParts) → Some device ≡ device_with addr profile
      → None ≡ command_with code device.commands → [] ≡ command_phases profile addr code
  no_command device known lacks =
      ap (phases_if device) lacks ∙ ap (λ (d : Option DeviceParts). phases_in d code) known

  pub phases_are : (device : DeviceParts) (command : CommandParts) (phases : Option ℕ)
      → Some device ≡ device_with addr profile → Some command ≡ command_with code device.commands
      → phases ≡ phases_of device command → phase_keys phases ≡ command_phases profile addr code
  phases_are device command phases known found is =
      ap phase_keys is ∙ ap (phases_if device) found ∙ ap (λ (d : Option DeviceParts). phases_in d code) known
