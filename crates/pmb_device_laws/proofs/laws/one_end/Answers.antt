use Rattle.pmb_device_laws.proofs.OneEnd.{one_end}
use Rattle.pmb_device_laws.proofs.laws.one_end.Goals as goal

pub returns : goal.returns
returns c device legs before after other = one_end device before after other legs
