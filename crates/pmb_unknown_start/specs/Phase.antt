-- What is known of PHASE of each device (PMBus Part II 1.3, PHASE), as the transactions on a bus tell
-- it. It is not known at first, whatever else is, nor after a line that was dropped, and a write of PAGE
-- leaves it.
use Rattle.std.specs.Prelude.{ℕ, ◌&&◌, if◌then◌else◌, Option, Some, None, List, [], ◌∷◌, ◌++◌, fold, nat_eq}
use Rattle.std.specs.Prelude.{option_and_then}
use Rattle.std.specs.Option.{is_some, option_or}
use Rattle.pmb_command.specs.Parts.{DeviceParts, device_with}
use Rattle.pmb_note.specs.Paging.{RegisterTold, told}
use Rattle.pmb_unknown_start.specs.Past.{PastData, Said, Dropped}
use Rattle.pmb_unknown_start.specs.Taken.{as_taken}

abbrev pub phase_code : ℕ
phase_code = 0x04

-- the only one of some bytes
abbrev pub only_byte : List ℕ → Option ℕ
only_byte [] = None
only_byte (byte ∷ []) = Some byte
only_byte (a ∷ b ∷ bytes) = None

-- what is told of PHASE of the device with an address: a value of one byte
abbrev pub told_phase : ℕ → RegisterTold → Option ℕ
told_phase addr t = if nat_eq t.addr addr && nat_eq t.code phase_code then only_byte t.bytes else None

-- the last that is told
abbrev pub last_phase : ℕ → List RegisterTold → Option ℕ
last_phase addr [] = None
last_phase addr (t ∷ ts) = option_or (last_phase addr ts) (told_phase addr t)

-- what is told with a transaction more; nothing behind a line that was dropped
abbrev pub told_then : List RegisterTold → PastData → List RegisterTold
told_then ts (Said t) = ts ++ told t
told_then ts Dropped = []

-- what is told since the last line that was dropped
abbrev pub told_since : List PastData → List RegisterTold
told_since past = fold told_then [] past

-- PHASE of a device at an address after what it took of what went before, where it is known: none where it has
-- no phases
abbrev pub phase_of : ℕ → List PastData → DeviceParts → Option ℕ
phase_of addr past device =
    if is_some device.phases then last_phase addr (told_since (as_taken device past)) else None

-- .. of the device with an address: none where the profile has no such device
abbrev pub phase : List DeviceParts → List PastData → ℕ → Option ℕ
phase profile past addr = option_and_then (phase_of addr past) (device_with addr profile)
