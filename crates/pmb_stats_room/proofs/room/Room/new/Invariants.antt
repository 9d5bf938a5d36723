use Rattle.pmb_stats_room.specs.machine.Beginning.{BeginAddresses}
use Rattle.pmb_stats_room.proofs.room.Room.new.Given as goal

abbrev pub invariant-loop-addr : goal.invariant-loop-addr
invariant-loop-addr l = BeginAddresses l.profile l.addr l.devices.items
