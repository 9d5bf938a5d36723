-- What C is told of a whole input.
use Rattle.std.specs.Prelude.{ℕ, ℤ, pos, negsuc, nat_lt, if◌then◌else◌, Option, Some, None, Result, Ok, Err}
use Rattle.pmb_keys.specs.declared.fault.FaultKind.{FaultKind}
use Rattle.pmb_keys.specs.declared.fault.FaultKind.TheVariants as kind
use Rattle.pmb_places.specs.declared.places.Place.{Place}
use Rattle.pmb_table.specs.declared.fault.ProfileFault.{ProfileFault}
use Rattle.pmb_in_memory.specs.declared.fault.WholeFault.{WholeFault}
use Rattle.pmb_in_memory.specs.declared.fault.WholeFault.TheVariants.{Profile, Memory, Write}
use Rattle.pmb_in_memory.specs.declared.put.Put.{Put}
use Rattle.pmb_c.specs.declared.result.PmbResult.{PmbResult}
use Rattle.pmb_firmware.specs.declared.call_status.CallStatus.{CallStatus}
use Rattle.pmb_firmware.specs.declared.call_status.CallStatus.TheVariants as status
use Rattle.pmb_firmware.specs.CallStatus.{number_of}

-- the numbers of the faults of profiles
abbrev pub fault_number : FaultKind → ℤ
fault_number kind.NotToml = pos 1
fault_number kind.UnknownKey = pos 2
fault_number kind.MissingKey = pos 3
fault_number kind.WrongType = pos 4
fault_number kind.TooManyDevices = pos 5
fault_number kind.BadAddress = pos 6
fault_number kind.AddressTwice = pos 7
fault_number kind.BadValue = pos 8
fault_number kind.BadPages = pos 9
fault_number kind.UnknownName = pos 10
fault_number kind.BadName = pos 11
fault_number kind.BadForm = pos 12
fault_number kind.BadCoefficients = pos 13
fault_number kind.CodeTwice = pos 14
fault_number kind.BadInitial = pos 15
fault_number kind.OutOfMemory = pos 16

-- a place counted from 0, or -1 where there is none
abbrev pub place_of : Option ℕ → ℤ
place_of (Some place) = pos place
place_of None = negsuc 0

-- nothing was written
abbrev pub result_of_status : CallStatus → PmbResult
result_of_status why = record {
  status = number_of why;
  fault = pos 0;
  device = negsuc 0;
  command = negsuc 0;
  length =
      0;
  packets = 0;
  refusals = 0;
  line = 0;
  column = 0;
}

-- the profile has a fault, and this is the length of what is written of it
abbrev pub result_of_fault : ProfileFault → ℕ → PmbResult
result_of_fault fault length = record {
  status = number_of status.BadProfile;
  fault = fault_number fault.what;
  device = place_of fault.device;
  command = place_of fault.command;
  length = length;
  packets = 0;
  refusals = 0;
  line = 0;
  column = 0;
}

-- a number, or the greatest one of 32 bits where it is greater
abbrev pub capped_u32 : ℕ → ℕ
capped_u32 number = if nat_lt number 4294967296 then number else 4294967295

-- the same with a place in the profile's text, if there is one
abbrev pub result_at : Option Place → PmbResult → PmbResult
result_at None told = told
result_at (Some place) told = record {
  status = told.status;
  fault = told.fault;
  device = told.device;
  command = told.command;
  length = told.length;
  packets = told.packets;
  refusals = told.refusals;
  line = capped_u32 place.line;
  column = capped_u32 place.column;
}

-- a text was written into a room of so many bytes, as far as it fits
abbrev pub result_of_put : ℕ → Put → PmbResult
result_of_put room put = record {
  status = number_of (if nat_lt room put.length then status.NoRoom else status.Done);
  fault = pos 0;
  device = negsuc 0;
  command = negsuc 0;
  length = put.length;
  packets = put.tally.packets;
  refusals = put.tally.refusals;
  line = 0;
  column = 0;
}

abbrev pub result_of : ℕ → Result Put WholeFault → PmbResult
result_of room (Ok put) = result_of_put room put
result_of room (Err (Profile fault)) = result_of_fault fault 0
result_of room (Err Memory) = result_of_status status.NoMemory
result_of room (Err Write) = result_of_status status.NoMemory
