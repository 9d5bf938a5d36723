use Rattle.pmb_exchange.proofs.Steps.{begins}
use Rattle.pmb_exchange.proofs.exchange.Exchange.new.Goals as goal

pub returns : goal.returns
returns c = λ profile request bus b.
    begins (λ ps stretches now member. c.states_fit.ensures ps stretches now member) profile request c.args.host bus b
