use Rattle.std.proofs.Common.{ℕ, ◌<◌}
use Rattle.std.specs.Prelude.{IfSome}
use Rattle.std.specs.Option.{option_and_then}
use Rattle.pmb_command.specs.Parts.{command_with, initial_on}
use Rattle.pmb_command.specs.Wire.{AreByteValues}
use Rattle.pmb_run.proofs.kept.initials_are_small.Given as goal

-- so far each page is
abbrev pub invariant-loop-page : goal.invariant-loop-page
invariant-loop-page l = (page : ℕ) → page < l.page
    → IfSome (option_and_then (λ c. initial_on page c.initial) (command_with l.code l.device.commands)) AreByteValues
