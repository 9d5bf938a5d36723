use Rattle.std.proofs.Common.{◌≡◌, [], length}
use Rattle.pmb_stats.specs.machine.DeviceCounts.{DevicesStandAt}
use Rattle.pmb_stats.proofs.device_counts.DeviceCounts.new.Given as goal

abbrev pub invariant-loop : goal.invariant-loop
invariant-loop l = record { many : length l.counts.items ≡ l.counter; none : DevicesStandAt l.counts.items [] }
