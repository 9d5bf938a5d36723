use Rattle.pmb_transaction.proofs.PassedOver.{more_left, one_way, passed_then_left, some_passed}
use Rattle.pmb_transaction.proofs.reading.events_are_passed_over.Goals as goal

pub returns-clause-some : goal.returns-clause-some
returns-clause-some c = some_passed

pub returns-clause-one_way : goal.returns-clause-one_way
returns-clause-one_way c = one_way

pub returns-clause-split : goal.returns-clause-split
returns-clause-split c = passed_then_left

pub returns-clause-more : goal.returns-clause-more
returns-clause-more c = more_left
