use Rattle.std.proofs.Common.{◌<◌, ℕ, IsSome}
use Rattle.pmb_command.specs.Parts.{command_with}
use Rattle.pmb_draft.specs.machine.CodeSet.{IsIn}
use Rattle.pmb_draft.proofs.draft.has_commands.Given as goal

-- those of the codes so far are there
abbrev pub invariant-loop-code : goal.invariant-loop-code
invariant-loop-code l = record {
  so_far : (k : ℕ) → k < l.code → IsIn l.codes l.address k → IsSome (command_with k l.device.commands);
}
