-- The command of an item, and what is selected for it.
use Rattle.std.specs.Prelude.{ℕ, Bool, true, false, Option, Some, None, List, [], ◌∷◌}
use Rattle.pmb_command.specs.Parts.{CommandParts, DeviceParts, command_with, device_with}
use Rattle.pmb_command_data.specs.Phases.{has_phases}
use Rattle.pmb_json_objects.specs.Seen.{SeenData, page_at, phase_at}
use Rattle.pmb_items.specs.declared.item.ItemCommand.{ItemCommand}

-- what is said of a device and a command of it; `none` where there is no such device or command
abbrev pub of_command : {X : Type 0} → X → (DeviceParts → CommandParts → X) → DeviceParts → Option CommandParts → X
of_command none says device None = none
of_command none says device (Some c) = says device c

abbrev pub of_device : {X : Type 0} → X → (DeviceParts → CommandParts → X) → Option DeviceParts → ℕ → X
of_device none says None code = none
of_device none says (Some device) code = of_command none says device (command_with code device.commands)

-- .. of the command with a code of the device with an address
abbrev pub at_command : {X : Type 0} → SeenData → ℕ → ℕ → X → (DeviceParts → CommandParts → X) → X
at_command seen addr code none says = of_device none says (device_with addr seen.profile) code

-- the page or the phase that is selected, of a command that has one
abbrev pub selected : Bool → Option ℕ → ℕ
selected false number = 0xffff
selected true None = 0xfffe
selected true (Some number) = number

abbrev pub command_at : ℕ → ℕ → ℕ → ItemCommand
command_at code page phase = record { code = code; page = page; phase = phase }

-- a code that the device has no command for
abbrev pub other_command : ℕ → ItemCommand
other_command code = command_at code 0xffff 0xffff

abbrev pub no_command : ItemCommand
no_command = other_command 0xffff

-- a command of a device, with what is selected
abbrev pub known_command : SeenData → ℕ → ℕ → DeviceParts → CommandParts → ItemCommand
known_command seen addr code device c =
    command_at code (selected c.entry.paged (page_at seen addr)) (selected (has_phases device c) (phase_at seen addr))

-- the command with a code, sent to an address
abbrev pub command_seen : SeenData → ℕ → ℕ → ItemCommand
command_seen seen addr code = at_command seen addr code (other_command code) (known_command seen addr code)

-- .. of bytes that were sent, where there is a code
abbrev pub sent_command : SeenData → ℕ → List ℕ → ItemCommand
sent_command seen addr [] = no_command
sent_command seen addr (code ∷ bytes) = command_seen seen addr code

-- .. in the last leg that is written, where there is one
abbrev pub written_command : SeenData → Option ℕ → Option (List ℕ) → ItemCommand
written_command seen None bytes = no_command
written_command seen (Some addr) None = no_command
written_command seen (Some addr) (Some bytes) = sent_command seen addr bytes
