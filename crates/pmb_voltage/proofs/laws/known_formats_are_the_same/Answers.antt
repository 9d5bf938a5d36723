use Rattle.pmb_voltage.proofs.Knowing.{knows_no_other}
use Rattle.pmb_voltage.proofs.laws.known_formats_are_the_same.Goals as goal

pub returns : goal.returns
returns c = knows_no_other
