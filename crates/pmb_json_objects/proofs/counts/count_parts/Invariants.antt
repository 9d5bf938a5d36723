use Rattle.std.proofs.Common.{ℕ, take}
use Rattle.pmb_json_objects.specs.Counts.{DeviceData, sum_of}
use Rattle.pmb_json_objects.specs.machine.Counting.{AreCounts}
use Rattle.pmb_json_objects.proofs.Counting.{writes_of}
use Rattle.pmb_json_objects.proofs.counts.count_parts.Given as goal

-- after the parts so far
abbrev pub invariant-loop-part : goal.invariant-loop-part
invariant-loop-part l =
    (each : ℕ → DeviceData) → AreCounts l.fn.devices each
    → AreCounts l.devices (λ addr. sum_of (each addr) (writes_of (take l.part-index l.parts) addr))
