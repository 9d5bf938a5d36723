-- What there is to tell of the pages of a device in the end, in the order of output: by page, by command
-- code, by phase, and of a register from the highest bit down.
use Rattle.std.specs.Prelude.{ℕ, zero, suc, ◌==◌, if◌then◌else◌, Option, Some, None, List, [], ◌∷◌, ◌++◌, flat_map}
use Rattle.std.specs.Prelude.{length, map}
use Rattle.std.specs.List.{range_with_len}
use Rattle.pmb_command.specs.Parts.{CommandParts, DeviceParts, device_with}
use Rattle.pmb_json_objects.specs.Seen.{command_of}
use Rattle.pmb_mean.specs.Numbers.{NumberData, kept}
use Rattle.pmb_stats_bits.specs.Bits.{RegisterRead, set_count}
use Rattle.pmb_observed.specs.declared.spot.PageKey.{PageKey}
use Rattle.pmb_observed.specs.declared.spot.PhaseKey.{PhaseKey}
use Rattle.pmb_observed.specs.declared.spot.Spot.{Spot}
use Rattle.pmb_observed.specs.Observed.{Observation, numbers_at, reads_at}
use Rattle.pmb_observed.specs.Spot.{command_on, is_numeric, is_register, page_keys, phase_keys, phases_of, spot_at}

-- a bit of a status register, and the reads of that register, some of which found it set
pub record BitData : Type 0 where
  pub page : PageKey
  pub phase : PhaseKey
  pub command : CommandParts
  pub bit : ℕ
  pub reads : List RegisterRead

-- a command, and its numbers, of which there are some
pub record NumbersData : Type 0 where
  pub page : PageKey
  pub phase : PhaseKey
  pub command : CommandParts
  pub numbers : List NumberData

-- ---- of a spot

module _ (page : PageKey) (phase : PhaseKey) (command : CommandParts) where
  -- a bit, if some read found it set
  abbrev pub bit_told : List RegisterRead → ℕ → List BitData
  bit_told reads bit =
      if set_count reads bit == 0 then []
      else record { page = page; phase = phase; command = command; bit = bit; reads = reads } ∷ []

  -- the lowest bits, that many, from the highest down
  unfoldable pub bits_told : List RegisterRead → ℕ → List BitData
  bits_told reads zero = []
  bits_told reads (suc bit) = bit_told reads bit ++ bits_told reads bit

  abbrev pub numbers_told : List NumberData → List NumbersData
  numbers_told numbers =
      if length numbers == 0 then []
      else record { page = page; phase = phase; command = command; numbers = numbers } ∷ []

-- the bits of the command at a spot, if it is a status register
abbrev pub register_bits : List Observation → Spot → Option CommandParts → List BitData
register_bits told spot None = []
register_bits told spot (Some command) =
    if is_register command.entry.kind then bits_told spot.page spot.phase command (reads_at spot told) 16 else []

-- the numbers of the command at a spot, if it has any
abbrev pub command_numbers : List Observation → Spot → Option CommandParts → List NumbersData
command_numbers told spot None = []
command_numbers told spot (Some command) =
    if is_numeric command.entry.kind then numbers_told spot.page spot.phase command (kept (numbers_at spot told))
    else []

-- ---- the pages of a device, and the phases of a command

-- the pages of the device with an address; none where the profile has no such device
abbrev pub pages_of : Option DeviceParts → List PageKey
pages_of None = []
pages_of (Some device) = page_keys device.pages

abbrev pub device_pages : List DeviceParts → ℕ → List PageKey
device_pages profile addr = pages_of (device_with addr profile)

-- the phases of a command of it; none where it has no such command
abbrev pub phases_if : DeviceParts → Option CommandParts → List PhaseKey
phases_if device None = []
phases_if device (Some command) = phase_keys (phases_of device command)

abbrev pub phases_in : Option DeviceParts → ℕ → List PhaseKey
phases_in None code = []
phases_in (Some device) code = phases_if device (command_of (Some device) code)

abbrev pub command_phases : List DeviceParts → ℕ → ℕ → List PhaseKey
command_phases profile addr code = phases_in (device_with addr profile) code

-- the spots of a command: on each page of its device, in each of its phases
abbrev pub command_spots : List DeviceParts → ℕ → ℕ → List Spot
command_spots profile addr code =
    flat_map (λ page. map (spot_at addr code page) (command_phases profile addr code)) (device_pages profile addr)

-- ---- of a profile's devices, by what was told of spots

module _ (profile : List DeviceParts) (told : List Observation) where
  abbrev pub spot_bits_at : Spot → List BitData
  spot_bits_at spot = register_bits told spot (command_on profile spot)

  abbrev pub spot_numbers_at : Spot → List NumbersData
  spot_numbers_at spot = command_numbers told spot (command_on profile spot)

module _ (profile : List DeviceParts) (told : List Observation) (addr : ℕ) where
  abbrev pub spot_bits : PageKey → ℕ → PhaseKey → List BitData
  spot_bits page code phase = spot_bits_at profile told (spot_at addr code page phase)

  abbrev pub spot_numbers : PageKey → ℕ → PhaseKey → List NumbersData
  spot_numbers page code phase = spot_numbers_at profile told (spot_at addr code page phase)

  -- of the command with a code on a page, by phase
  abbrev pub code_bits : PageKey → ℕ → List BitData
  code_bits page code = flat_map (spot_bits page code) (command_phases profile addr code)

  abbrev pub code_numbers : PageKey → ℕ → List NumbersData
  code_numbers page code = flat_map (spot_numbers page code) (command_phases profile addr code)

  -- of a page, by command code
  abbrev pub page_bits : PageKey → List BitData
  page_bits page = flat_map (code_bits page) (range_with_len 0 256)

  abbrev pub page_numbers : PageKey → List NumbersData
  page_numbers page = flat_map (code_numbers page) (range_with_len 0 256)

-- .. and what there is of all pages of a device
abbrev pub device_bits : List DeviceParts → List Observation → ℕ → List BitData
device_bits profile told addr = flat_map (page_bits profile told addr) (device_pages profile addr)

abbrev pub device_numbers : List DeviceParts → List Observation → ℕ → List NumbersData
device_numbers profile told addr = flat_map (page_numbers profile told addr) (device_pages profile addr)
