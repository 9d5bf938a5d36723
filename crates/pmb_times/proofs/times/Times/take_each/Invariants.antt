use Rattle.std.proofs.Common.{◌≡◌, ◌++◌, List, length, ℕ}
use Rattle.pmb_times.specs.Times.{TimesStandAt}
use Rattle.pmb_times.proofs.times.Times.take_each.Given as goal

-- it stands after the bytes that came before the rest
abbrev pub invariant-loop-rest : goal.invariant-loop-rest
invariant-loop-rest l = (text : List ℕ) → TimesStandAt l.fn.self text
    → (done : List ℕ) × (done ++ l.rest ≡ l.fn.bytes) × TimesStandAt l.self (text ++ done)

abbrev pub decreases-loop-rest : goal.decreases-loop-rest
decreases-loop-rest l = length l.rest
