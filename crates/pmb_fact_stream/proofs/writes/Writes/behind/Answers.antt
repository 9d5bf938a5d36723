use Rattle.std.proofs.Common.{subst, sym}
use Rattle.pmb_fact_stream.specs.machine.Losing.{WritesBehind}
use Rattle.pmb_fact_stream.proofs.writes.Writes.behind.Goals as goal

-- after STOP nothing was taken
pub returns-in-Stop : goal.returns-in-Stop
returns-in-Stop c profile taken stands =
    subst (λ e. WritesBehind profile c.new.result taken e) (sym c.in-Stop.is) (c.new.ensures profile)
