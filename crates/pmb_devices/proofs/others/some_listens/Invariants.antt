use Rattle.std.proofs.Common.{◌≡◌, false, take}
use Rattle.pmb_devices.specs.machine.Others.{some_listens}
use Rattle.pmb_devices.proofs.others.some_listens.Given as goal

abbrev pub invariant-loop-i : goal.invariant-loop-i
invariant-loop-i l = some_listens (take l.i l.profile) ≡ false
