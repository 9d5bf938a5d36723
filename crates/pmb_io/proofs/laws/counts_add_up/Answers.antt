use Rattle.pmb_io.proofs.Running.{raised_by_none, raised_twice}
use Rattle.pmb_io.proofs.laws.counts_add_up.Goals as goal

pub returns : goal.returns
returns c = record { both = raised_twice; nothing = raised_by_none }
