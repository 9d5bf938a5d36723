use Rattle.pmb_transaction.proofs.Cuts.{refused_moved, truncated_moved}
use Rattle.pmb_transaction.proofs.reading.refusals_move.Goals as goal

pub returns-clause-refused : goal.returns-clause-refused
returns-clause-refused c = λ profile n m front event refusal refused. refused_moved profile n m front event refusal
    refused

pub returns-clause-truncated : goal.returns-clause-truncated
returns-clause-truncated c = λ profile n m events refusal truncated. truncated_moved profile n m events refusal
    truncated
