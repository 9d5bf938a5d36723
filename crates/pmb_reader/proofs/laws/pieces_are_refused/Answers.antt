use Rattle.pmb_reader.specs.Refusal.{refusal_data}
use Rattle.pmb_reader.proofs.Accounts.{piece_is_refused}
use Rattle.pmb_reader.proofs.laws.pieces_are_refused.Goals as goal

pub returns : goal.returns
returns c = λ profile before after events outcomes due piece used refusal read free is feeds.
    piece_is_refused profile c.passing_goes_on.ensures.other before after events due outcomes piece used
    (refusal_data refusal) read free is feeds
