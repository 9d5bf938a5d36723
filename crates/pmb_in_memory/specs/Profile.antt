-- What a profile's text says.
use Rattle.std.specs.Prelude.{◌≡◌, ◌≢◌, ◌⊎◌, Result, Ok, Err, List, ℕ}
use Rattle.pmb_command.specs.Bus.{IsBus}
use Rattle.pmb_keys.specs.declared.fault.FaultKind.TheVariants.{OutOfMemory}
use Rattle.pmb_table.specs.Profile.{ProfileParts, SaysBus}
use Rattle.pmb_table.specs.declared.fault.ProfileFault.{ProfileFault}
use Rattle.pmb_in_memory.specs.declared.fault.WholeFault.{WholeFault}
use Rattle.pmb_in_memory.specs.declared.fault.WholeFault.TheVariants.{Profile, Memory, Write}

-- The text says this of a bus: its devices, which were accepted, and the addresses that it ignores.
pub record HasBus (text : List ℕ) (bus : ProfileParts) : Type 0 where
  pub says : SaysBus text (Ok bus)
  pub accepted : IsBus bus.devices

-- The text has this fault.
pub record HasFault (text : List ℕ) (fault : ProfileFault) : Type 0 where
  pub says : SaysBus text (Err fault)
  pub no_memory : fault.what ≢ OutOfMemory

-- the bus of a text, or its fault, or nothing is said for want of memory
abbrev pub IsProfile : List ℕ → Result ProfileParts WholeFault → Type 0
IsProfile text (Ok bus) = HasBus text bus
IsProfile text (Err (Profile fault)) = HasFault text fault
IsProfile text (Err Memory) = Unit {0}
IsProfile text (Err Write) = ⊥

-- the answer is this fault, with its device and its command, or that there was no memory
abbrev pub IsToldOf : {A : Type 0} → ProfileFault → Result A WholeFault → Type 0
IsToldOf fault answer = (answer ≡ Err (Profile fault)) ⊎ (answer ≡ Err Memory)
