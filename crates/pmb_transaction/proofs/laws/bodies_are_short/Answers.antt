use Rattle.pmb_transaction.proofs.Lengths.{body_is_short, data_are_short, front_is_short, one_code_more}
use Rattle.pmb_transaction.proofs.laws.bodies_are_short.Goals as goal

pub returns-clause-data : goal.returns-clause-data
returns-clause-data c = data_are_short

pub returns-clause-checked : goal.returns-clause-checked
returns-clause-checked c = one_code_more

pub returns-clause-body : goal.returns-clause-body
returns-clause-body c = body_is_short

pub returns-clause-front : goal.returns-clause-front
returns-clause-front c = front_is_short
