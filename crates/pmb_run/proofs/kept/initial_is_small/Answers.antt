use Rattle.std.proofs.Common.{Option, List, ℕ, subst}
use Rattle.std.specs.Prelude.{IfSome}
use Rattle.pmb_command.specs.Wire.{AreByteValues}
use Rattle.pmb_run.proofs.kept.initial_is_small.Goals as goal

pub returns-in-Some : goal.returns-in-Some
returns-in-Some c = subst (λ (o : Option (List ℕ)). IfSome o AreByteValues) c.in-Some.ensures.bytes
    c.bytes_are_small.ensures

pub returns-in-None : goal.returns-in-None
returns-in-None c = subst (λ (o : Option (List ℕ)). IfSome o AreByteValues) c.in-None.ensures.bytes tt
