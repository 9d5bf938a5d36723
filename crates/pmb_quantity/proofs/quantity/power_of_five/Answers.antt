use Rattle.pmb_quantity.proofs.Powers.{power_read}
use Rattle.pmb_quantity.proofs.quantity.power_of_five.Goals as goal

pub returns : goal.returns
returns c = power_read c.args.power c.requires
