use Rattle.std.proofs.Common.{ℕ, ◌<◌}
use Rattle.std.specs.Prelude.{slice_get, IfSome}
use Rattle.pmb_run.specs.Kept.{IsKeptCommand}
use Rattle.pmb_run.proofs.kept.commands_are_kept.Given as goal

-- so far each command is kept
abbrev pub invariant-loop-index : goal.invariant-loop-index
invariant-loop-index l = (k : ℕ) → k < l.index → IfSome (slice_get l.device.commands k) IsKeptCommand
