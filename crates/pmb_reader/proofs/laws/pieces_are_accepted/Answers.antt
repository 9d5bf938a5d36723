use Rattle.pmb_transaction.specs.Transaction.{transaction_data}
use Rattle.pmb_reader.proofs.Accounts.{piece_is_accepted}
use Rattle.pmb_reader.proofs.laws.pieces_are_accepted.Goals as goal

pub returns : goal.returns
returns c = λ profile before after events due outcomes piece used t read is feeds.
    piece_is_accepted profile c.passing_goes_on.ensures.other before after events due outcomes piece used
    (transaction_data t) read is feeds
