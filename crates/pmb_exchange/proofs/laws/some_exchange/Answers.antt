use Rattle.pmb_exchange.proofs.SomeExchange.{some_exchange}
use Rattle.pmb_exchange.proofs.laws.some_exchange.Goals as goal

pub returns : goal.returns
returns c profile members request word number bus devices_are allowed =
    some_exchange profile members bus devices_are request word number allowed
