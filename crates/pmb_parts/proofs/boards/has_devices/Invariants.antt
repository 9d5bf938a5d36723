use Rattle.std.proofs.Common.{IsSome, take}
use Rattle.std.specs.List.{AllByRecursion}
use Rattle.pmb_command.specs.Parts.{device_with}
use Rattle.pmb_parts.proofs.boards.has_devices.Given as goal

-- those of the parts so far are there
abbrev pub invariant-loop-part : goal.invariant-loop-part
invariant-loop-part l = record {
  so_far : AllByRecursion (λ part. IsSome (device_with part.address l.profile)) (take l.part-index l.parts);
}
