use Rattle.pmb_wires.proofs.TrackerLaw.{tells_signals}
use Rattle.pmb_wires.proofs.laws.tells_signals.Goals as goal

pub returns : goal.returns
returns c = tells_signals
