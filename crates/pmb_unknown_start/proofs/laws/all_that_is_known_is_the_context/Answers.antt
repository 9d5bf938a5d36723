use Rattle.pmb_unknown_start.proofs.Full.{mode_is_known, page_is_known}
use Rattle.pmb_unknown_start.proofs.laws.all_that_is_known_is_the_context.Goals as goal

pub returns-clause-mode : goal.returns-clause-mode
returns-clause-mode c = mode_is_known

pub returns-clause-page : goal.returns-clause-page
returns-clause-page c = page_is_known
