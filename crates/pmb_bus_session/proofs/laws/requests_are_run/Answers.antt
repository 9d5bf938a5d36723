use Rattle.pmb_bus_session.proofs.Standing.{run_there}
use Rattle.pmb_bus_session.proofs.laws.requests_are_run.Goals as goal

pub returns : goal.returns
returns c = run_there
