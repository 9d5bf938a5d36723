use Rattle.std.proofs.Common.{◌≡◌, length}
use Rattle.tests_files.specs.Memory.{known_in}
use Rattle.tests_files.proofs.memory.find.Given as goal

-- it is none of the entries so far
abbrev pub invariant-loop-left : goal.invariant-loop-left
invariant-loop-left l = known_in l.left l.name ≡ known_in l.entries l.name

abbrev pub decreases-loop-left : goal.decreases-loop-left
decreases-loop-left l = length l.left
