use Rattle.std.proofs.Common.{◌≡◌, length, take}
use Rattle.pmb_table.specs.machine.Places.{ArePlaces}
use Rattle.pmb_table.specs.machine.Profile.{addresses_of}
use Rattle.pmb_table.proofs.profile.places_of.Given as goal

-- the devices so far are at their places
abbrev pub invariant-loop-i : goal.invariant-loop-i
invariant-loop-i l = record {
  places : ArePlaces l.places (addresses_of (take l.i l.devices));
  count : length l.places ≡ 256;
}
