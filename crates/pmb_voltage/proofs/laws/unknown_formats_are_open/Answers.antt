use Rattle.pmb_voltage.proofs.Open.{open_if_unknown}
use Rattle.pmb_voltage.proofs.laws.unknown_formats_are_open.Goals as goal

pub returns : goal.returns
returns c = open_if_unknown
