-- Why a whole input was not worked on to its end.
use Rattle.std.specs.Prelude.{Result, Ok, Err}
use Rattle.pmb_io.specs.declared.fault.ToolFault.{ToolFault}
use Rattle.pmb_io.specs.declared.fault.ToolFault.TheVariants as tool
use Rattle.pmb_keys.specs.declared.fault.FaultKind.{FaultKind}
use Rattle.pmb_keys.specs.declared.fault.FaultKind.TheVariants as kind
use Rattle.pmb_table.specs.declared.fault.ProfileFault.{ProfileFault}
use Rattle.pmb_in_memory.specs.declared.fault.WholeFault.{WholeFault}
use Rattle.pmb_in_memory.specs.declared.fault.WholeFault.TheVariants.{Profile, Memory, Write}

-- want of memory is no fault of the profile
abbrev pub fault_by : FaultKind → ProfileFault → WholeFault
fault_by kind.NotToml fault = Profile fault
fault_by kind.UnknownKey fault = Profile fault
fault_by kind.MissingKey fault = Profile fault
fault_by kind.WrongType fault = Profile fault
fault_by kind.TooManyDevices fault = Profile fault
fault_by kind.BadAddress fault = Profile fault
fault_by kind.AddressTwice fault = Profile fault
fault_by kind.BadValue fault = Profile fault
fault_by kind.BadPages fault = Profile fault
fault_by kind.UnknownName fault = Profile fault
fault_by kind.BadName fault = Profile fault
fault_by kind.BadForm fault = Profile fault
fault_by kind.BadCoefficients fault = Profile fault
fault_by kind.CodeTwice fault = Profile fault
fault_by kind.BadInitial fault = Profile fault
fault_by kind.OutOfMemory fault = Memory

abbrev pub of_profile : ProfileFault → WholeFault
of_profile fault = fault_by fault.what fault

-- what reading a profile came to: the profile, its fault with its place, or want of memory
abbrev pub read_of : {A : Type 0} → Result A ProfileFault → Result A WholeFault
read_of (Ok profile) = Ok profile
read_of (Err fault) = Err (of_profile fault)

-- of the faults of a run over bytes at hand; those of reads and of a front don't come
abbrev pub of_tool : ToolFault → WholeFault
of_tool tool.Write = Write
of_tool tool.Memory = Memory
of_tool tool.Read = Memory
of_tool tool.TooManyReads = Memory
of_tool tool.ProfileTooLong = Memory

abbrev pub whole_of : {A : Type 0} → Result A ToolFault → Result A WholeFault
whole_of (Ok answer) = Ok answer
whole_of (Err fault) = Err (of_tool fault)
