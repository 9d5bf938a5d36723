use Rattle.pmb_wires.proofs.FilterLaw.{filters}
use Rattle.pmb_wires.proofs.laws.filters_spikes.Goals as goal

pub returns : goal.returns
returns c = filters
