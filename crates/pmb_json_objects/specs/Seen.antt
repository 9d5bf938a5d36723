-- What is known where a packet begins: the devices, and what was told before it.
use Rattle.std.specs.Prelude.{ℕ, Bool, false, Option, Some, None, List, option_map}
use Rattle.std.specs.Option.{is_none}
use Rattle.pmb_command.specs.Entry.{EntryParts}
use Rattle.pmb_command.specs.Parts.{CommandParts, DeviceParts, command_with, device_with}
use Rattle.pmb_unknown_start.specs.declared.mode.KnownMode.{KnownMode}
use Rattle.pmb_unknown_start.specs.declared.start.Start.{Start}
use Rattle.pmb_unknown_start.specs.declared.start.Start.TheVariants.{Late}
use Rattle.pmb_unknown_start.specs.Known.{mode, page}
use Rattle.pmb_unknown_start.specs.Past.{PastData}
use Rattle.pmb_unknown_start.specs.Phase.{phase}
use Rattle.pmb_json_fields.specs.declared.basis.Basis.{Basis}
use Rattle.pmb_json_fields.specs.Value.{basis_of}
use Rattle.pmb_voltage.specs.Voltage.{VoltagesData, is_open, voltages_of}

-- The digits after a point, what is known of PAGE and VOUT_MODE at first, the devices, and what went
-- before the packet: transactions, and lines that were dropped.
pub record SeenData : Type 0 where
  pub digits : ℕ
  pub start : Start
  pub profile : List DeviceParts
  pub before : List PastData

-- a command of a device, if there are both
abbrev pub command_of : Option DeviceParts → ℕ → Option CommandParts
command_of None code = None
command_of (Some device) code = command_with code device.commands

-- its name, its forms and its kind
abbrev pub entry_of : Option DeviceParts → ℕ → Option EntryParts
entry_of device code = option_map (λ c. c.entry) (command_of device code)

-- the command with a code of the device with an address
abbrev pub command_at : SeenData → ℕ → ℕ → Option CommandParts
command_at seen addr code = command_of (device_with addr seen.profile) code

abbrev pub entry_at : SeenData → ℕ → ℕ → Option EntryParts
entry_at seen addr code = entry_of (device_with addr seen.profile) code

-- PAGE and PHASE of the device with an address, and the VOUT_MODE that its output voltages are read by
abbrev pub page_at : SeenData → ℕ → Option ℕ
page_at seen addr = page seen.start seen.profile seen.before addr

abbrev pub phase_at : SeenData → ℕ → Option ℕ
phase_at seen addr = phase seen.profile seen.before addr

abbrev pub mode_at : SeenData → ℕ → KnownMode
mode_at seen addr = mode seen.start seen.profile seen.before addr

-- ---- what these rest on: they are assumed where they would not be known, had the capture begun in the middle

-- PAGE
abbrev pub page_basis_at : SeenData → ℕ → Basis
page_basis_at seen addr = basis_of (is_none (page Late seen.profile seen.before addr))

-- what would be known then of the format of a device's output voltages
abbrev pub late_voltages : SeenData → ℕ → DeviceParts → VoltagesData
late_voltages seen addr device =
    voltages_of device (mode Late seen.profile seen.before addr) (page Late seen.profile seen.before addr)

abbrev pub is_open_late : SeenData → ℕ → Option DeviceParts → Bool
is_open_late seen addr None = false
is_open_late seen addr (Some device) = is_open (late_voltages seen addr device)

-- the format of its output voltages: VOUT_MODE, and under VID the table
abbrev pub basis_at : SeenData → ℕ → Basis
basis_at seen addr = basis_of (is_open_late seen addr (device_with addr seen.profile))
