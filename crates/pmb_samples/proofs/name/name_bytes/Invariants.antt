use Rattle.std.proofs.Common.{◌≡◌, [], false, length}
use Rattle.pmb_samples.specs.machine.Names.{name_from}
use Rattle.pmb_samples.proofs.name.name_bytes.Given as goal

-- the bytes so far were kept
abbrev pub invariant-loop-left : goal.invariant-loop-left
invariant-loop-left l = name_from [] false l.field.is_quoted l.field.raw.now
    ≡ name_from l.name.items l.is_second l.field.is_quoted l.left

abbrev pub decreases-loop-left : goal.decreases-loop-left
decreases-loop-left l = length l.left
