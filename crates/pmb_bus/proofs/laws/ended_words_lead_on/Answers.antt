use Rattle.pmb_bus.proofs.Spelling.{ended_words_lead_on}
use Rattle.pmb_bus.proofs.laws.ended_words_lead_on.Goals as goal

pub returns : goal.returns
returns c = ended_words_lead_on
