use Rattle.std.proofs.Common.{take}
use Rattle.std.specs.List.{AllByRecursion}
use Rattle.pmb_draft.specs.machine.Draft.{HasDevice}
use Rattle.pmb_draft.proofs.draft.has_devices.Given as goal

-- those so far are there
abbrev pub invariant-loop-address : goal.invariant-loop-address
invariant-loop-address l = record {
  so_far : AllByRecursion (HasDevice l.seen.codes l.profile) (take l.address-index l.seen.listed.items);
}
