use Rattle.std.proofs.Common.{◌≡◌, fold, take}
use Rattle.pmb_transaction.specs.Transaction.{part_data}
use Rattle.pmb_unknown_start.specs.machine.Keeping.{kept_part}
use Rattle.pmb_unknown_start.proofs.kept.Kept.take_parts.Given as goal

-- after the parts so far
abbrev pub invariant-loop-part : goal.invariant-loop-part
invariant-loop-part l = l.self
    ≡ fold (λ k part. kept_part l.start l.device k (part_data part)) l.initial.self (take l.part-index l.parts)
