use Rattle.pmb_exchange.proofs.OneExchange.{one_exchange}
use Rattle.pmb_exchange.proofs.laws.an_exchange_is_one.Goals as goal

pub returns : goal.returns
returns c = λ profile members task a b bus devices_are first second. one_exchange profile members bus devices_are task a
    b first second
