use Rattle.pmb_devices.proofs.RunStates.{states_fit}
use Rattle.pmb_devices.proofs.laws_on_replies.states_fit.Goals as goal

pub returns : goal.returns
returns c = states_fit
