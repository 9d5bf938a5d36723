use Rattle.std.proofs.Common.{map, take}
use Rattle.pmb_command.specs.Parts.{DeviceParts}
use Rattle.pmb_transaction.specs.Transaction.{part_data}
use Rattle.pmb_unknown_start.specs.machine.Keeping.{Keeps, KeptData, kept_parts, written_to}
use Rattle.pmb_unknown_start.proofs.late.take_parts.Given as goal

-- of the devices so far
abbrev pub invariant-loop-i : goal.invariant-loop-i
invariant-loop-i l =
    (now : DeviceParts → KeptData) → Keeps l.fn.kept l.profile now
    → Keeps l.kept l.profile (written_to (take l.i l.profile)
    (λ device. kept_parts l.start device (map part_data l.parts) (now device)) now)
