use Rattle.pmb_devices.proofs.Applied.{transactions_are_applied}
use Rattle.pmb_devices.proofs.laws.transactions_are_applied.Goals as goal

pub returns : goal.returns
returns c = transactions_are_applied
