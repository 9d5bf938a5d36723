use Rattle.pmb_stats_room.specs.machine.Beginning.{BeginCodes}
use Rattle.pmb_stats_room.proofs.device_room.DeviceRoom.of_device.Given as goal

abbrev pub invariant-loop-code : goal.invariant-loop-code
invariant-loop-code l = BeginCodes l.device l.code l.commands.items
