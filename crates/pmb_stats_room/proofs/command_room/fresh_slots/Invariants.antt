use Rattle.pmb_stats_room.specs.machine.Beginning.{AreFresh}
use Rattle.pmb_stats_room.proofs.command_room.fresh_slots.Given as goal

abbrev pub invariant-loop-place : goal.invariant-loop-place
invariant-loop-place l = AreFresh l.kind l._place l.slots.items
