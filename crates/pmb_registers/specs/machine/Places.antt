-- Where the registers of each code lie.
use Rattle.std.specs.Prelude.{◌≡◌, ◌≢◌, ℕ, ◌<◌, ◌≤◌, Option, Some, None, List, [], length, map, slice_index_or, take, drop}
use Rattle.std.specs.Prelude.{vec_capacity}
use Rattle.std.specs.List.{AllByRecursion}
use Rattle.pmb_registers.specs.declared.register_range.RegisterRange.{RegisterRange}
use Rattle.pmb_registers.specs.declared.registers.Registers.TheInside.{Inside}
use Rattle.pmb_command.specs.Parts.{CommandParts, DeviceParts}
use Rattle.pmb_registers.specs.State.{RegisterData, InState, registers_of}
use Rattle.pmb_registers.specs.machine.Registers.{register_data}
use Rattle.pmb_registers.specs.machine.StatusCodes.{AreStatusCodes}

-- no register has the code
abbrev pub NoneHas : ℕ → List RegisterData → Type 0
NoneHas code registers = AllByRecursion (λ r. code ≢ r.code) registers

-- All registers of a code lie in its place.
pub record IsPlaceOf (code : ℕ) (place : RegisterRange) (registers : List RegisterData) : Type 0 where
  pub ordered : place.start ≤ place.end
  pub within : place.end ≤ length registers
  pub front : NoneHas code (take place.start registers)
  pub back : NoneHas code (drop place.end registers)

abbrev pub ArePlaces : List RegisterRange → List RegisterData → Type 0
ArePlaces places registers = (code : ℕ) (d : RegisterRange) → code < 256
    → IsPlaceOf code (slice_index_or places code d) registers

-- the registers of a command, where there is one
abbrev pub registers_of_some : DeviceParts → Option CommandParts → List RegisterData
registers_of_some device None = []
registers_of_some device (Some command) = registers_of device command

-- ---- what contracts see of a device's registers

abbrev pub in_state : Inside → InState
in_state r = record {
  device = r.device.now;
  state =
      record { page = r.page; registers = map register_data r.registers.items };
}

-- What is kept beside the registers is true of them: the places, and the list of status registers. There
-- is memory for just as many registers as there are.
pub record IsKept (r : Inside) : Type 0 where
  pub exact : vec_capacity r.registers ≡ length r.registers.items
  pub places : ArePlaces r.places (map register_data r.registers.items)
  pub status_codes : AreStatusCodes r.device.now r.status_codes.items
