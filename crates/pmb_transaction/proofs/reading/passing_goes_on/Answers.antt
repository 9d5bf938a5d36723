use Rattle.pmb_transaction.proofs.PassedOver.{none_passed, other_passed, stop_passed}
use Rattle.pmb_transaction.proofs.reading.passing_goes_on.Goals as goal

pub returns-clause-none : goal.returns-clause-none
returns-clause-none c = none_passed

pub returns-clause-stop : goal.returns-clause-stop
returns-clause-stop c = stop_passed

pub returns-clause-other : goal.returns-clause-other
returns-clause-other c = other_passed
