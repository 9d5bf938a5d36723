use Rattle.std.proofs.Common.{List}
use Rattle.pmb_registers.specs.State.{InState}
use Rattle.pmb_device.specs.Legs.{Legs}
use Rattle.pmb_devices.specs.machine.Others.{AllEnded, TookSoFar, devices_of}
use Rattle.pmb_devices.proofs.others.take_others.Given as goal

abbrev pub invariant-loop-i : goal.invariant-loop-i
invariant-loop-i l = (legs : Legs) (members : List InState) → AllEnded legs l.initial.devices members
    → TookSoFar (devices_of members) legs members l.devices l.i
