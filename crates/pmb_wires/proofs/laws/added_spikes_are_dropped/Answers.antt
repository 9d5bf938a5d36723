use Rattle.pmb_wires.proofs.AddedLaw.{added_spike}
use Rattle.pmb_wires.proofs.ExchangedLaw.{filtered_exchanged}
use Rattle.pmb_wires.proofs.laws.added_spikes_are_dropped.Goals as goal

pub returns-clause-sda : goal.returns-clause-sda
returns-clause-sda c = added_spike

pub returns-clause-alike : goal.returns-clause-alike
returns-clause-alike c = filtered_exchanged
