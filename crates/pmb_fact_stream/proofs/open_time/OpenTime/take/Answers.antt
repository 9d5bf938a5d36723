use Rattle.std.proofs.Common.{[], ◌∷◌, ◌++◌, subst, sym}
use Rattle.pmb_fact_stream.specs.machine.OpenTime.{KeepsTime}
use Rattle.pmb_fact_stream.proofs.UnderWay.{keeps_on}
use Rattle.pmb_fact_stream.proofs.open_time.OpenTime.take.Goals as goal

pub returns-in-Stop : goal.returns-in-Stop
returns-in-Stop c text events has =
    subst (λ e. KeepsTime c.end.new.self text (events ++ e ∷ [])) (sym c.in-Stop.is) (c.end.ensures text events)

pub returns-in_default : goal.returns-in_default
returns-in_default c text events has =
    keeps_on c.args.self.now text events c.args.event c.in_default.not-Stop has
